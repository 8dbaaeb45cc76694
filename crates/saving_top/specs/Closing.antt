-- What is done behind a serving: the slabs are told, and the world is saved.
use Rattle.std.specs.Prelude.{◌≡◌, ℕ, List, ◌++◌, Bool, true, false, Option, Some, None, codes, Result, Ok, Err}
use Rattle.std.specs.List.{flat_map}
use Rattle.class_heap.specs.Heap.{heap_blocks, heap_slabs}
use Rattle.defrag_rax.specs.Lines.{row_line}
use Rattle.defrag_rax.specs.Owned.{tree_nodes, other_blocks}
use Rattle.defrag_rax.specs.Rows.{audit_rows}
use Rattle.outside.specs.Counts.{Rose}
use Rattle.outside.specs.Files.{ShelfSeen, KeepsOthers}
use Rattle.outside.specs.Streams.{SinkSeen}
use Rattle.plain_world.specs.Worlds.{World, live, selecting}
use Rattle.program_top.specs.Engines.{Engine, world_of}
use Rattle.program_top.specs.Notes.{Notes, line_feed, line_of}
use Rattle.program_top.specs.declared.ending.Ending.TheVariants as endings
use Rattle.rdb_writer.specs.Saving.{IsSaved}

-- ---- the slabs

-- the lines of what stands in the slabs of an engine, class by class
abbrev pub slab_lines : Engine → List ℕ
slab_lines engine = flat_map row_line
    (audit_rows (heap_slabs engine.store) (tree_nodes engine.bases (heap_blocks engine.store))
    (other_blocks engine.bases (heap_blocks engine.store)))

-- What comes of a serving with this status, where the slabs may be told. They are told after 0, and the status stays; or memory
-- wanted for that: then the status is 8, and its line is put. After another status nothing is put.
pub data Audits (asked : Bool) (served : ℕ) (noted told : SinkSeen) (audited : ℕ) : Type 0 where
  unasked : asked ≡ false → audited ≡ served → told ≡ noted → Audits asked served noted told audited
  other : (served ≡ 0 → ⊥) → audited ≡ served → told ≡ noted → Audits asked served noted told audited
  tells : asked ≡ true → served ≡ 0 → audited ≡ 0 → Audits asked served noted told audited
  no_memory : asked ≡ true → served ≡ 0 → audited ≡ 8 → Notes noted told (line_of endings.Memory)
      → Audits asked served noted told audited

-- where they are told, their lines are put, or a front of them where the notes failed
abbrev pub TellsSlabs : Bool → ℕ → SinkSeen → SinkSeen → Engine → Type 0
TellsSlabs asked audited noted told engine = asked ≡ true → audited ≡ 0 → Notes noted told (slab_lines engine)

-- ---- the world

-- the line of a saving that failed
abbrev pub not_saved_line : List ℕ
not_saved_line = codes "redis-core: saving failed" ++ line_feed

-- a world that is left, live at the last moment and with database 0 selected
abbrev pub left_of : World → ℕ → World
left_of world last = live (selecting world 0) last

-- where the status is 0 the name that is asked for has a file of the world that is left, at the last moment
abbrev pub Saves : Option (List ℕ) → ShelfSeen → ShelfSeen → ℕ → World → ℕ → Type 0
Saves None shelf shelf' status world last = Unit {0}
Saves (Some name) shelf shelf' status world last =
    status ≡ 0 → IsSaved shelf.files shelf'.files name last (left_of world last)

-- What comes of a run that has this status so far, where the world may be saved. After 0 it is, and the status stays; or the
-- shelf failed, once: then the status is 10, and its line is put behind what was noted, or a front of it where the notes
-- failed. No other name's bytes change. After another status the shelf is left alone.
pub data Stores (name : List ℕ) (audited : ℕ) (told noted : SinkSeen) (shelf shelf' : ShelfSeen) (status : ℕ)
    : Type 0 where
  saved : audited ≡ 0 → status ≡ 0 → noted ≡ told → shelf'.faults ≡ shelf.faults
      → KeepsOthers shelf.files shelf'.files name → Stores name audited told noted shelf shelf' status
  failed : audited ≡ 0 → status ≡ 10 → Notes told noted not_saved_line → Rose shelf.faults shelf'.faults
      → KeepsOthers shelf.files shelf'.files name → Stores name audited told noted shelf shelf' status
  untouched : (audited ≡ 0 → ⊥) → status ≡ audited → noted ≡ told → shelf' ≡ shelf
      → Stores name audited told noted shelf shelf' status

-- the same where no file may be named: then nothing comes of it
abbrev pub StoresIn : Option (List ℕ) → ℕ → SinkSeen → SinkSeen → ShelfSeen → ShelfSeen → ℕ → Type 0
StoresIn None audited told noted shelf shelf' status = (status ≡ audited) × (noted ≡ told) × (shelf' ≡ shelf)
StoresIn (Some name) audited told noted shelf shelf' status = Stores name audited told noted shelf shelf' status

-- what an engine that is left comes to so, and what is put and kept
pub record AuditsEngine (engine : Engine) (asked : Bool) (served : ℕ) (noted told : SinkSeen) (audited : ℕ) : Type 0 where
  pub audits : Audits asked served noted told audited
  pub tells : TellsSlabs asked audited noted told engine

pub record StoresEngine (engine : Engine) (save : Option (List ℕ)) (audited : ℕ) (told noted : SinkSeen)
    (shelf shelf' : ShelfSeen) (status : ℕ) : Type 0 where
  pub stores : StoresIn save audited told noted shelf shelf' status
  pub saves : Saves save shelf shelf' status (world_of engine) engine.last

-- what putting the lines of the slabs answers: want of memory puts none
abbrev pub PutsSlabs : {T E : Type 0} → Engine → SinkSeen → SinkSeen → Result T E → Type 0
PutsSlabs engine noted told (Ok x) = Notes noted told (slab_lines engine)
PutsSlabs engine noted told (Err e) = told ≡ noted
