-- A key joins with its deadline, or memory is refused and both are out again.
use Rattle.std.proofs.Common.{◌≡◌, ◌⊎◌, inl, inr, ℕ, ◌<◌, ◌^◌, List, Option, Some, None, Result, Ok, Err, OnOk, is_some, refl, sym, ap, ◌∙◌, subst}
use Rattle.std.specs.FinMap.{insert, remove}
use Rattle.blocks.specs.declared.BlockRef.{BlockRef}
use Rattle.blocks.specs.Blocks.{Blocks, bytes_at, no_step}
use Rattle.blocks.proofs.Serve.{served_then}
use Rattle.rehash_dict.specs.Grown.{Grown}
use Rattle.rehash_dict.specs.Keyed.{hash_of, key_tables}
use Rattle.expiry.specs.Timed.{Timed, moments, Grows, KeepsCursor}
use Rattle.expiry.specs.Changes.{Sets, Clears}
use Rattle.expiry.specs.Changes.Sets.{changes, joins}
use Rattle.held.specs.Table.{Table, Lacks, Keyed, Adds, TableGrows}
use Rattle.held.specs.Databases.{Bases, table_at, deadlines_at, ChangesTable, ChangesDeadlines}
use Rattle.held.specs.Sound.{IsTimed}
use Rattle.held.specs.Calls.{IsDeadline, Begins, Joins, KeepsTimes}
use Rattle.held.proofs.Tables.{some_bytes}
use Rattle.held.proofs.Maps.{same_deadline, undone_deadline}
use Rattle.held.proofs.Timing.{timed_adds, timed_sets, timed_clears, sets_then_clears, untimed, moments_lack}
use Rattle.held.proofs.Bases.{base_then}

pub sets_seed : (m : Blocks) (name : BlockRef) (old new : Timed) (deadline : ℕ) → Sets m old.table new.table name deadline → new.table.seed ≡ old.table.seed
sets_seed m name old new deadline (changes at was stands s _) = s.seed
sets_seed m name old new deadline (joins at lacks a _) = a.seed

module _ {V : Type 0} (m : Blocks) (db : ℕ) (name : BlockRef) (key : List ℕ) (named : m name ≡ Some key) where
  module _ (old : Bases V) (t : IsTimed m (table_at old db) (deadlines_at old db)) (lacks : Lacks m (table_at old db) key) where
    -- without a deadline
    pub begins_none : Begins old old m db name key None
    begins_none = record {
      grown = no_step;
      cursor = refl;
      changes = record { base = record { others = λ number other. refl; count = refl; settings = record { limits = refl; seed = refl; turn = refl } }; keys = refl };
      keyed = t.keyed;
      seed = refl;
      times = sym (same_deadline (moments m (deadlines_at old db)) key None (moments_lack m (deadlines_at old db) key t.keyed (untimed m (table_at old db) (deadlines_at old db) key t lacks)));
      joined = λ keys named_there keyed timed. timed;
      undone = λ new cleared k. (timed_clears m (table_at old db) (deadlines_at old db) new key cleared k t).0;
    }

    -- with one
    pub begins_some : (mid : Bases V) (deadline : ℕ) → ChangesDeadlines old mid db → Sets m (deadlines_at old db).table (deadlines_at mid db).table name deadline
        → moments m (deadlines_at mid db) ≡ insert (moments m (deadlines_at old db)) (bytes_at m name) deadline → Keyed m (deadlines_at mid db).table → deadline < 2 ^ 63
        → Grows m (deadlines_at old db) (deadlines_at mid db) → KeepsCursor (deadlines_at old db) (deadlines_at mid db) → Begins old mid m db name key (Some deadline)
    begins_some mid deadline c sets times keyed late grown cursor = record {
      grown = grown;
      cursor = cursor;
      changes = c;
      keyed = keyed;
      seed = sets_seed m name (deadlines_at old db) (deadlines_at mid db) deadline sets;
      times = times ∙ ap (λ k. insert (moments m (deadlines_at old db)) k deadline) (some_bytes m name key named);
      joined = λ keys named_there keys_keyed timed. timed_sets m keys (deadlines_at old db) (deadlines_at mid db) name deadline sets keyed keys_keyed (ap is_some named) named_there late timed;
      undone = λ new cleared k. sets_then_clears m (table_at old db) (deadlines_at old db) (deadlines_at mid db) new name key deadline named lacks sets keyed cleared k t;
    }

    pub begins_set : {E : Type 0} (mid : Bases V) (d : ℕ) (deadline : Option ℕ) → deadline ≡ Some d → IsDeadline deadline → (result : Result (Unit {0}) E) → ChangesDeadlines old mid db
        → OnOk result (Sets m (deadlines_at old db).table (deadlines_at mid db).table name d)
        → OnOk result (moments m (deadlines_at mid db) ≡ insert (moments m (deadlines_at old db)) (bytes_at m name) d) → Keyed m (deadlines_at mid db).table
        → Grows m (deadlines_at old db) (deadlines_at mid db) → KeepsCursor (deadlines_at old db) (deadlines_at mid db) → OnOk result (Begins old mid m db name key deadline)
    begins_set mid d deadline is late (Ok u) c sets times keyed grown cursor =
        subst (Begins old mid m db name key) (sym is) (begins_some mid d c sets times keyed (subst IsDeadline is late) grown cursor)
    begins_set mid d deadline is late (Err e) c sets times keyed grown cursor = tt

    module _ (mid : Bases V) (deadline : Option ℕ) (b : Begins old mid m db name key deadline) where
      -- the key joins
      pub joins_is : (new : Bases V) (at hash : ℕ) (value : V) → ChangesTable mid new db → Adds (table_at mid db) (table_at new db) at (record { key = name; hash = hash; value = value })
          → Keyed m (table_at new db) → TableGrows m (table_at mid db) (table_at new db) → Joins old new m db name key value deadline
      joins_is new at hash value c a keyed keys_grown =
          let adds : Adds (table_at old db) (table_at new db) at (record { key = name; hash = hash; value = value }) =
          subst (λ (k : Table V). Adds k (table_at new db) at (record { key = name; hash = hash; value = value })) b.changes.keys a in
          record {
            base = base_then old mid new db b.changes.base c.base;
            at = at;
            hash = hash;
            adds = adds;
            keyed = keyed;
            timed = subst (IsTimed m (table_at new db)) (sym c.deadlines)
                (b.joined (table_at new db) (record { at = at; element = record { key = name; hash = hash; value = value }; found = adds.updates.changed; same = refl }) keyed
                (timed_adds m (table_at old db) (table_at new db) (deadlines_at old db) at _ adds t));
            seed = ap (λ (d : Timed). d.table.seed) c.deadlines ∙ b.seed;
            times = ap (moments m) c.deadlines ∙ b.times;
            keys_grown = subst (λ (k : Table V). TableGrows m k (table_at new db)) b.changes.keys keys_grown;
            grown = subst (Grows m (deadlines_at old db)) (sym c.deadlines) b.grown;
            cursor = ap (λ (d : Timed). d.cursor) c.deadlines ∙ b.cursor;
          }

      -- memory is refused, and its deadline goes
      pub keeps_is : (new : Bases V) → ChangesDeadlines mid new db → moments m (deadlines_at new db) ≡ remove (moments m (deadlines_at mid db)) key
          → Clears m (deadlines_at mid db).table (deadlines_at new db).table key ⊎ ((new ≡ mid) × Lacks m (deadlines_at mid db).table key) → Keyed m (deadlines_at new db).table
          → Grows m (deadlines_at mid db) (deadlines_at new db) → KeepsCursor (deadlines_at mid db) (deadlines_at new db) → KeepsTimes old new m db
      keeps_is new c times cleared keyed grown cursor =
          let own : Clears m (deadlines_at mid db).table (deadlines_at new db).table key
          ⊎ ((deadlines_at new db ≡ deadlines_at mid db) × Lacks m (deadlines_at mid db).table key) =
          elim cleared [ inl x ↦ inl x | inr same ↦ inr (ap (λ (x : Bases V). deadlines_at x db) same.0, same.1) ] in
          record {
            grown = served_then _ _ _ b.grown (subst (λ seed. Grown (hash_of seed) (key_tables m (deadlines_at mid db).table) (key_tables m (deadlines_at new db).table)) b.seed grown);
            cursor = cursor ∙ b.cursor;
            changes = record { base = base_then old mid new db b.changes.base c.base; keys = c.keys ∙ b.changes.keys };
            timed = b.undone (deadlines_at new db) own keyed;
            seed = elim cleared [ inl x ↦ x.removes.seed | inr same ↦ ap (λ (x : Bases V). (deadlines_at x db).table.seed) same.0 ] ∙ b.seed;
            times = times ∙ ap (λ t. remove t key) b.times ∙ undone_deadline (moments m (deadlines_at old db)) key deadline
                (moments_lack m (deadlines_at old db) key t.keyed (untimed m (table_at old db) (deadlines_at old db) key t lacks));
          }

    -- nothing changed
    pub keeps_same : (new : Bases V) → new ≡ old → KeepsTimes old new m db
    keeps_same new same = subst (λ (x : Bases V). KeepsTimes old x m db) (sym same) (record {
      grown = no_step;
      cursor = refl;
      changes = record { base = record { others = λ number other. refl; count = refl; settings = record { limits = refl; seed = refl; turn = refl } }; keys = refl };
      timed = t;
      seed = refl;
      times = refl;
    })
