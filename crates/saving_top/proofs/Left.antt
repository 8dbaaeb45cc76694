-- What is done with the last engine.
use Rattle.std.proofs.Common.{◌≡◌, ◌==◌, ℕ, List, [], ◌∷◌, length, Bool, true, false, Option, Some, None, sym, refl, ap, ◌∙◌, subst, arith}
use Rattle.std.specs.Prelude.{◌⊎◌, option_map}
use Rattle.std.specs.Borrow.{Bor}
use Rattle.std.specs.List.{flat_map}
use Rattle.std.proofs.lemmas.Bool.{eqb-true}
use Rattle.class_heap.specs.Heap.{heap_blocks, heap_slabs}
use Rattle.class_heap.specs.declared.heap.ClassHeap.{ClassHeap}
use Rattle.defrag_rax.specs.Lines.{row_line}
use Rattle.defrag_rax.specs.Owned.{tree_nodes, other_blocks}
use Rattle.defrag_rax.specs.Rows.{audit_rows}
use Rattle.defrag_rax.specs.declared.rows.AuditRow.{AuditRow}
use Rattle.fit_worlds.specs.Fit.{IsFit}
use Rattle.keyspace.specs.Databases.{Keyspace, means}
use Rattle.outside.specs.Counts.{Rose}
use Rattle.outside.specs.Files.{ShelfSeen, KeepsOthers}
use Rattle.outside.specs.Streams.{SinkSeen}
use Rattle.plain_world.proofs.Lives.{live_again}
use Rattle.plain_world.specs.Worlds.{World}
use Rattle.program_top.specs.Engines.{Engine, world_of}
use Rattle.program_top.specs.Notes.{Notes, line_of}
use Rattle.program_top.specs.declared.ending.Ending.TheVariants as endings
use Rattle.rdb_writer.specs.Saving.{saved, IsSaved}
use Rattle.redis_core.specs.Engines.{keyspace_of}
use Rattle.resp_frames.specs.Puts.{PutsAll, PutsFront}
use Rattle.saving_top.specs.Closing as closing
use Rattle.saving_top.specs.Closing.{AuditsEngine, StoresEngine, left_of, not_saved_line, slab_lines}

-- ---- the slabs

-- the lines of the rows of a keyspace
abbrev rows_of : Keyspace ClassHeap → List AuditRow
rows_of keyspace = audit_rows (heap_slabs keyspace.store) (tree_nodes keyspace.bases (heap_blocks keyspace.store)) (other_blocks keyspace.bases (heap_blocks keyspace.store))

pub lines_are : (engine : Engine) (keyspace : Keyspace ClassHeap) (rows : List AuditRow) (text : List ℕ) → keyspace ≡ keyspace_of engine → rows ≡ rows_of keyspace → text ≡ flat_map row_line rows
    → text ≡ slab_lines engine
lines_are engine keyspace rows text is are spelled = spelled ∙ ap (λ l. flat_map row_line l) (are ∙ ap (λ (k : Keyspace ClassHeap). rows_of k) is)

empty_by : (text : List ℕ) (b : Bool) → b ≡ (length text == 0) → b ≡ true → text ≡ []
empty_by [] b is e = refl
empty_by (byte ∷ text) b is e = absurd (omega (arith, eqb-true (length (byte ∷ text)) 0 (sym is ∙ e)))

some_by : (text : List ℕ) (b : Bool) → b ≡ (length text == 0) → b ≡ false → text ≡ [] → ⊥
some_by text b is e none = let no : false ≡ true = sym e ∙ is ∙ ap (λ l. length l == 0) none in cc

-- lines that were put stand in the notes, and none stand there as they were
put_lines : (noted told : SinkSeen) (text : List ℕ) → (text ≡ [] → ⊥) → PutsAll noted told text ⊎ PutsFront noted told text → Notes noted told text
put_lines noted told [] some put = absurd (some refl)
put_lines noted told (byte ∷ text) some put = put

pub told_some : (noted told : SinkSeen) (text lines : List ℕ) (b : Bool) → text ≡ lines → b ≡ (length text == 0) → b ≡ false → PutsAll noted told text ⊎ PutsFront noted told text
    → Notes noted told lines
told_some noted told text lines b is tests some put = subst (Notes noted told) is (put_lines noted told text (some_by text b tests some) put)

pub told_none : (noted : SinkSeen) (text lines : List ℕ) (b : Bool) → text ≡ lines → b ≡ (length text == 0) → b ≡ true → Notes noted noted lines
told_none noted text lines b is tests none = let P : List ℕ → Type 0 = Notes noted noted in subst P is (subst P (sym (empty_by text b tests none)) refl)

module _ (engine : Engine) (asked : Bool) (served : ℕ) (noted told : SinkSeen) where
  pub audits_told : asked ≡ true → served ≡ 0 → Notes noted told (slab_lines engine) → AuditsEngine engine asked served noted told 0
  audits_told is zero lines = record { audits = closing.tells is zero refl; tells = λ a z. lines }

  pub audits_memory : asked ≡ true → served ≡ 0 → (mid : SinkSeen) → mid ≡ noted → Notes mid told (line_of endings.Memory) → AuditsEngine engine asked served noted told 8
  audits_memory is zero mid same line = record {
    audits = closing.no_memory is zero refl (subst (λ (n : SinkSeen). Notes n told (line_of endings.Memory)) same line);
    tells = λ a z. absurd (omega (arith, z));
  }

module _ (engine : Engine) (asked : Bool) (served : ℕ) (noted : SinkSeen) where
  pub audits_unasked : asked ≡ false → AuditsEngine engine asked served noted noted served
  audits_unasked is = record { audits = closing.unasked is refl refl; tells = λ a z. absurd (let no : true ≡ false = sym a ∙ is in cc) }

  pub audits_other : (served ≡ 0 → ⊥) → AuditsEngine engine asked served noted noted served
  audits_other not = record { audits = closing.other not refl refl; tells = λ a z. absurd (not z) }

-- ---- the world

-- what is saved of a keyspace
abbrev saved_of : Keyspace ClassHeap → ℕ → World
saved_of keyspace moment = saved keyspace.bases (heap_blocks keyspace.store) moment

-- that of the engine, at the last moment that it used
module _ (engine : Engine) (keyspace : Keyspace ClassHeap) (moment : ℕ) (is : keyspace ≡ keyspace_of engine) (last : moment ≡ engine.last) where
  same_world : saved_of keyspace moment ≡ saved_of (keyspace_of engine) engine.last
  same_world = ap (λ (k : Keyspace ClassHeap). saved_of k moment) is ∙ ap (saved_of (keyspace_of engine)) last

  pub fit_saved : IsFit (world_of engine) → IsFit (saved_of keyspace moment)
  fit_saved fit = let own : IsFit (saved_of (keyspace_of engine) engine.last) = record { each = fit.each } in subst IsFit (sym same_world) own

  -- it is the world that is left
  world_is : saved_of keyspace moment ≡ left_of (world_of engine) engine.last
  world_is = same_world ∙ sym (live_again (means 0 engine.bases (heap_blocks engine.store)) engine.last)

  pub stores_saved : (name : List ℕ) (audited : ℕ) (told : SinkSeen) (shelf shelf' : ShelfSeen) → audited ≡ 0 → IsSaved shelf.files shelf'.files name moment (saved_of keyspace moment)
      → shelf'.faults ≡ shelf.faults → KeepsOthers shelf.files shelf'.files name → StoresEngine engine (Some name) audited told told shelf shelf' 0
  stores_saved name audited told shelf shelf' zero file same others = record {
    stores = closing.saved zero refl refl same others;
    saves = λ none. subst (λ (w : World). IsSaved shelf.files shelf'.files name engine.last w) world_is
        (subst (λ m. IsSaved shelf.files shelf'.files name m (saved_of keyspace moment)) last file);
  }

module _ (engine : Engine) (name : List ℕ) (audited : ℕ) (told noted : SinkSeen) (shelf shelf' : ShelfSeen) where
  pub stores_failed : audited ≡ 0 → Notes told noted not_saved_line → Rose shelf.faults shelf'.faults → KeepsOthers shelf.files shelf'.files name
      → StoresEngine engine (Some name) audited told noted shelf shelf' 10
  stores_failed zero line rose others = record { stores = closing.failed zero refl line rose others; saves = λ none. absurd (omega (arith, none)) }

pub stores_other : (engine : Engine) (name : List ℕ) (audited : ℕ) (told : SinkSeen) (shelf : ShelfSeen) → (audited ≡ 0 → ⊥) → StoresEngine engine (Some name) audited told told shelf shelf audited
stores_other engine name audited told shelf not = record { stores = closing.untouched not refl refl refl; saves = λ none. absurd (not none) }

-- where no file is named nothing comes of it
pub stores_none : (engine : Engine) (name : Option (Bor (List ℕ))) (audited : ℕ) (told : SinkSeen) (shelf : ShelfSeen) → name ≡ None
    → StoresEngine engine (option_map (λ s. s.now) name) audited told told shelf shelf audited
stores_none engine name audited told shelf is =
    let none : StoresEngine engine None audited told told shelf shelf audited = record { stores = (refl, refl, refl); saves = tt } in
    subst (λ (o : Option (Bor (List ℕ))). StoresEngine engine (option_map (λ s. s.now) o) audited told told shelf shelf audited) (sym is) none

pub stores_some : (engine : Engine) (name : Option (Bor (List ℕ))) (text : Bor (List ℕ)) (audited : ℕ) (told noted : SinkSeen) (shelf shelf' : ShelfSeen) (status : ℕ) → name ≡ Some text
    → StoresEngine engine (Some text.now) audited told noted shelf shelf' status → StoresEngine engine (option_map (λ s. s.now) name) audited told noted shelf shelf' status
stores_some engine name text audited told noted shelf shelf' status is s =
    subst (λ (o : Option (Bor (List ℕ))). StoresEngine engine (option_map (λ s. s.now) o) audited told noted shelf shelf' status) (sym is) s
