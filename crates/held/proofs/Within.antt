-- How databases come from others within a scope, step by step.
use Rattle.std.proofs.Common.{◌≡◌, inl, inr, ℕ, ◌≤◌, ◌<◌, List, [], ◌∷◌, Option, Some, None, unwrap_or, refl, sym, ap, ◌∙◌, subst, arith}
use Rattle.object_codec.specs.declared.limits.Limits.{Limits}
use Rattle.std.proofs.lemmas.Bool.{cases_eq, cond-true}
use Rattle.blocks.specs.declared.BlockRef.{BlockRef}
use Rattle.blocks.specs.Blocks.{Blocks, ref_eq, times, bytes_at, Changes, no_step}
use Rattle.blocks.proofs.Refs.{ref_eq_refl}
use Rattle.blocks.proofs.Change.{one_if}
use Rattle.blocks.proofs.Serve.{served_same, served_then}
use Rattle.plain_world.specs.Worlds.{Value}
use Rattle.rehash_dict.specs.Grown.{Grown}
use Rattle.rehash_dict.specs.Keyed.{hash_of, key_tables}
use Rattle.rehash_dict.proofs.Keys.{keyed_frame}
use Rattle.expiry.specs.Timed.{Timed, KeepsCursor}
use Rattle.held.specs.declared.databases.Base.{Base}
use Rattle.rehash_dict.specs.Table.{at_item}
use Rattle.held.specs.Table.{Table, Element, item, Swaps, Removes, TableGrows}
use Rattle.held.specs.Databases.{Bases, no_base, base_at, table_at, deadlines_at, ChangesBase, ChangesTable, ChangesDeadlines}
use Rattle.stored.specs.Owning.{ReadsOwn}
use Rattle.held.specs.Sound.{IsArranged, IsIntact}
use Rattle.held.specs.Calls.{Joins}
use Rattle.held.specs.Scopes.{Scope, keys_of, no_key, BaseGrows, AreGrown, Grew, Stayed, Within}
use Rattle.held.proofs.Tables.{named_in}
use Rattle.held.proofs.Bases.{table_owned, kept_inside}

module _ {V : Type 0} where
  -- a database comes from itself by no step
  grows_none : (seed : ℕ) (base : Base V) (m : Blocks) → BaseGrows seed base base m m
  grows_none seed base m = record { keys = no_step; deadlines = no_step; cursor = refl }

  -- where a database comes from a second one and this from a first, it comes from the first
  grows_then : (seed : ℕ) (a b c : Base V) (m mid after : Blocks) → BaseGrows seed a b m mid → BaseGrows seed b c mid after → BaseGrows seed a c m after
  grows_then seed a b c m mid after p q = record {
    keys = served_then _ _ _ p.keys q.keys;
    deadlines = served_then _ _ _ p.deadlines q.deadlines;
    cursor = q.cursor ∙ p.cursor;
  }

  -- a database without a key is the same over any store
  grows_anew : (seed : ℕ) (b : Base V) (m mid after : Blocks) → BaseGrows seed (no_base seed) b mid after → BaseGrows seed (no_base seed) b m after
  grows_anew seed b m mid after p = record { keys = p.keys; deadlines = p.deadlines; cursor = p.cursor }

  -- a database that comes from another in two steps comes from it, also where either step emptied it
  grew_then : (emptied : Type 0) (seed : ℕ) (a b c : Base V) (m mid after : Blocks) → Grew emptied seed a b m mid → Grew emptied seed b c mid after → Grew emptied seed a c m after
  grew_then emptied seed a b c m mid after p q = elim q [
    | inr anew ↦ inr (anew.0, grows_anew seed c m mid after anew.1)
    | inl on ↦ elim p [
      | inl first ↦ inl (grows_then seed a b c m mid after first on)
      | inr first ↦ inr (first.0, grows_then seed (no_base seed) b c m mid after first.1 on)
    ]
  ]

  -- tables that come from none go on
  pub grown_on : (bases new : Bases V) (m after : Blocks) (db : ℕ) → AreGrown bases m → new.seed ≡ bases.seed → {emptied : Type 0}
      → Grew emptied bases.seed (base_at bases db) (base_at new db) m after → BaseGrows new.seed (no_base new.seed) (base_at new db) after after
  grown_on bases new m after db grown seed grew = subst (λ s. BaseGrows s (no_base s) (base_at new db) after after) (sym seed) (elim grew [
    | inl on ↦ grows_anew bases.seed (base_at new db) after m after (grows_then bases.seed (no_base bases.seed) (base_at bases db) (base_at new db) m m after (grown db) on)
    | inr anew ↦ grows_anew bases.seed (base_at new db) after m after anew.1
  ])

module _ {V : Type 0} (refs_of : Blocks → V → List BlockRef) where
  -- nothing changes
  pub within_none : (scope : Scope) (old : Bases V) (m : Blocks) → Within refs_of scope old old m m
  within_none scope old m = record {
    same = λ db apart. refl;
    grew = λ db. inl (grows_none old.seed (base_at old db) m);
    stayed = λ db at e found apart. record { stood = found; bytes = λ r owns. refl; refs = refl };
    seed = refl;
  }

  -- databases and a store that stay as they were are within any scope
  pub within_same : (scope : Scope) (old new : Bases V) (m after : Blocks) → new ≡ old → after ≡ m → Within refs_of scope old new m after
  within_same scope old new m after same stays = subst (λ (b : Bases V). Within refs_of scope old b m after) (sym same) (subst (Within refs_of scope old old m) (sym stays) (within_none scope old m))

  -- one step after another
  pub within_then : (scope : Scope) (a b c : Bases V) (m mid after : Blocks) → Within refs_of scope a b m mid → Within refs_of scope b c mid after → Within refs_of scope a c m after
  within_then scope a b c m mid after p q = record {
    same = λ db apart. q.same db apart ∙ p.same db apart;
    grew = λ db. grew_then (scope.empties db) a.seed (base_at a db) (base_at b db) (base_at c db) m mid after (p.grew db)
        (subst (λ seed. Grew (scope.empties db) seed (base_at b db) (base_at c db) mid after) p.seed (q.grew db));
    stayed = λ db at e found apart.
        (let last = q.stayed db at e found apart in
        let itself : one_if (ref_eq e.key e.key) ≡ 1 = cond-true _ _ _ (ref_eq_refl e.key) in
        let bytes : bytes_at after e.key ≡ bytes_at mid e.key = ap (λ (o : Option (List ℕ)). unwrap_or o []) (last.bytes e.key (omega (arith, itself))) in
        let first = p.stayed db at e last.stood (λ named. apart (subst (scope.writes db) (sym bytes) named)) in
        record { stood = first.stood; bytes = λ r owns. last.bytes r (subst (λ list. 0 < times r (e.key ∷ list)) (sym first.refs) owns) ∙ first.bytes r owns; refs = last.refs ∙ first.refs });
    seed = q.seed ∙ p.seed;
  }

  -- what is within a scope is within a wider one
  pub within_wider : (scope wider : Scope) → ((db : ℕ) → scope.touches db → wider.touches db) → ((db : ℕ) (key : List ℕ) → scope.writes db key → wider.writes db key)
      → ((db : ℕ) → scope.empties db → wider.empties db)
      → (old new : Bases V) (m after : Blocks) → Within refs_of scope old new m after → Within refs_of wider old new m after
  within_wider scope wider touches writes empties old new m after p = record {
    same = λ db apart. p.same db (λ touched. apart (touches db touched));
    grew = λ db. elim (p.grew db) [ inl on ↦ inl on | inr anew ↦ inr (empties db anew.0, anew.1) ];
    stayed = λ db at e found apart. p.stayed db at e found (λ named. apart (writes db (bytes_at after e.key) named));
    seed = p.seed;
  }

  -- tables that come from none still do
  pub within_grown : (scope : Scope) (old new : Bases V) (m after : Blocks) → Within refs_of scope old new m after → AreGrown old m → AreGrown new after
  within_grown scope old new m after p grown = λ db. grown_on old new m after db grown p.seed (p.grew db)

  -- what writes no key of a database is within any keys of it
  pub within_keys : (db : ℕ) (named : List ℕ → Type 0) (old new : Bases V) (m after : Blocks) → Within refs_of (no_key db) old new m after → Within refs_of (keys_of db named) old new m after
  within_keys db named old new m after p = within_wider (no_key db) (keys_of db named) (λ number here. here) (λ number key none. absurd none.1) (λ number no. absurd no) old new m after p

  -- ---- one database changes over the same store

  module _ (scope : Scope) (old new : Bases V) (m : Blocks) (db : ℕ) (touched : scope.touches db) where
    -- where one database comes from its old tables and no other changes, each comes from its old tables
    here_or_same : ChangesBase old new db → BaseGrows old.seed (base_at old db) (base_at new db) m m → (number : ℕ) → Grew (scope.empties number) old.seed (base_at old number) (base_at new number) m m
    here_or_same c grows number = elim (cases_eq number db) [
      | inl here ↦ inl (subst (λ n. BaseGrows old.seed (base_at old n) (base_at new n) m m) (sym here) grows)
      | inr other ↦ inl (subst (λ (b : Base V). BaseGrows old.seed (base_at old number) b m m) (sym (c.others number other)) (grows_none old.seed (base_at old number) m))
    ]

    -- where only a touched database changes, each one that isn't touched stays
    same_apart : ChangesBase old new db → (number : ℕ) → (scope.touches number → ⊥) → base_at new number ≡ base_at old number
    same_apart c number apart = elim (cases_eq number db) [
      | inl here ↦ absurd (apart (subst scope.touches (sym here) touched))
      | inr other ↦ c.others number other
    ]

    -- its elements were there, but for those that are written
    abbrev pub FromOld : Type 0
    FromOld = (at : ℕ) (e : Element V) → item (table_at new db) at ≡ Some e → (scope.writes db (bytes_at m e.key) → ⊥) → item (table_at old db) at ≡ Some e

    -- where the one database that changes has no new element but written ones, each unwritten element stayed
    from_here : ChangesBase old new db → FromOld → (number at : ℕ) (e : Element V) → item (table_at new number) at ≡ Some e → (scope.writes number (bytes_at m e.key) → ⊥)
        → Stayed refs_of old m m number at e
    from_here c from number at e found apart = record {
      stood = elim (cases_eq number db) [
        | inl here ↦ subst (λ n. item (table_at old n) at ≡ Some e) (sym here)
            (from at e (subst (λ n. item (table_at new n) at ≡ Some e) here found) (λ named. apart (subst (λ n. scope.writes n (bytes_at m e.key)) (sym here) named)))
        | inr other ↦ ap (λ (b : Base V). item b.keys at) (sym (c.others number other)) ∙ found
      ];
      bytes = λ r owns. refl;
      refs = refl;
    }

    -- a value takes the place of another, at a key that is written
    pub within_swaps : (c : ChangesTable old new db) (at : ℕ) (was value : V) (s : Swaps (table_at old db) (table_at new db) at was value)
        → key_tables m (table_at new db) ≡ key_tables m (table_at old db) → scope.writes db (bytes_at m s.key) → Within refs_of scope old new m m
    within_swaps c at was value s tables named = record {
      same = same_apart c.base;
      grew = here_or_same c.base (record {
        keys = served_same _ _ tables;
        deadlines = served_same _ _ (ap (λ (d : Timed). key_tables m d.table) c.deadlines);
        cursor = ap (λ (d : Timed). d.cursor) c.deadlines;
      });
      stayed = from_here c.base (λ i e found apart. elim (cases_eq i at) [
        | inl here ↦ (let changed : Some e ≡ Some (record { key = s.key; hash = s.hash; value = value }) = sym found ∙ ap (item (table_at new db)) here ∙ s.updates.changed in
            let same : e ≡ record { key = s.key; hash = s.hash; value = value } = cc in
            absurd (apart (subst (λ (x : Element V). scope.writes db (bytes_at m x.key)) (sym same) named)))
        | inr other ↦ sym (s.updates.others i other) ∙ found
      ]);
      seed = c.base.settings.seed;
    }

    -- all keys leave at once
    pub within_anew : ChangesBase old new db → scope.empties db → base_at new db ≡ no_base old.seed → Within refs_of scope old new m m
    within_anew c emptied none = record {
      same = same_apart c;
      grew = λ number. elim (cases_eq number db) [
        | inl here ↦ inr (
          subst scope.empties (sym here) emptied,
          subst (λ (b : Base V). BaseGrows old.seed (no_base old.seed) b m m) (sym (ap (base_at new) here ∙ none))
              (grows_none old.seed (no_base old.seed) m),
        )
        | inr other ↦ inl (subst (λ (b : Base V). BaseGrows old.seed (base_at old number) b m m) (sym (c.others number other)) (grows_none old.seed (base_at old number) m))
      ];
      stayed = from_here c (λ i e found apart. (let nothing : Some e ≡ None = sym found ∙ ap (λ (b : Base V). item b.keys i) none in absurd cc));
      seed = c.settings.seed;
    }

    module _ {IsSound : Limits → ℕ → Blocks → V → Type 0} (a : IsArranged IsSound old m) (within : db < 16) where
      -- a key table that comes from the old one, with no new element but written ones, is within the scope
      pub within_table : ChangesTable old new db → Grown (hash_of (table_at old db).seed) (key_tables m (table_at old db)) (key_tables m (table_at new db)) → FromOld → Within refs_of scope old new m m
      within_table c grown from = record {
        same = same_apart c.base;
        grew = here_or_same c.base (record {
          keys = subst (λ seed. Grown (hash_of seed) (key_tables m (table_at old db)) (key_tables m (table_at new db))) (a.seeds db within).keys grown;
          deadlines = served_same _ _ (ap (λ (d : Timed). key_tables m d.table) c.deadlines);
          cursor = ap (λ (d : Timed). d.cursor) c.deadlines;
        });
        stayed = from_here c.base from;
        seed = c.base.settings.seed;
      }

      -- deadlines that come from the old ones and keep the cursor are within a scope that touches the database
      pub within_times : ChangesDeadlines old new db → Grown (hash_of (deadlines_at old db).table.seed) (key_tables m (deadlines_at old db).table)
          (key_tables m (deadlines_at new db).table) → KeepsCursor (deadlines_at old db) (deadlines_at new db) → Within refs_of scope old new m m
      within_times c grown cursor = record {
        same = same_apart c.base;
        grew = here_or_same c.base (record {
          keys = served_same _ _ (ap (key_tables m) c.keys);
          deadlines = subst (λ seed. Grown (hash_of seed) (key_tables m (deadlines_at old db).table) (key_tables m (deadlines_at new db).table)) (a.seeds db within).deadlines grown;
          cursor = cursor;
        });
        stayed = from_here c.base (λ at e found apart. ap (λ (k : Table V). item k at) (sym c.keys) ∙ found);
        seed = c.base.settings.seed;
      }

      -- an element leaves
      pub within_removes : (c : ChangesTable old new db) (key : List ℕ) (ref : BlockRef) (value : V) (l : Removes m (table_at old db) (table_at new db) key ref value)
          → TableGrows m (table_at old db) (table_at new db) → Within refs_of scope old new m m
      within_removes c key ref value l grown = within_table c grown (λ i e found apart. elim (cases_eq i l.at) [
        | inl here ↦ (let none : Some e ≡ None = sym found ∙ ap (item (table_at new db)) here ∙ l.updates.changed in absurd cc)
        | inr other ↦ sym (l.updates.others i other) ∙ found
      ])

      -- an element joins with its deadline, under a key that is written
      pub within_joins : (ref : BlockRef) (key : List ℕ) (value : V) (deadline : Option ℕ) (j : Joins old new m db ref key value deadline) → scope.writes db (bytes_at m ref)
          → Within refs_of scope old new m m
      within_joins ref key value deadline j named = record {
        same = same_apart j.base;
        grew = here_or_same j.base (record {
          keys = subst (λ seed. Grown (hash_of seed) (key_tables m (table_at old db)) (key_tables m (table_at new db))) (a.seeds db within).keys j.keys_grown;
          deadlines = subst (λ seed. Grown (hash_of seed) (key_tables m (deadlines_at old db).table) (key_tables m (deadlines_at new db).table)) (a.seeds db within).deadlines j.grown;
          cursor = j.cursor;
        });
        stayed = from_here j.base (λ i e found apart. elim (cases_eq i j.at) [
          | inl here ↦ (let changed : Some e ≡ Some (record { key = ref; hash = j.hash; value = value }) = sym found ∙ ap (item (table_at new db)) here ∙ j.adds.updates.changed in
              let same : e ≡ record { key = ref; hash = j.hash; value = value } = cc in
              absurd (apart (subst (λ (x : Element V). scope.writes db (bytes_at m x.key)) (sym same) named)))
          | inr other ↦ sym (j.adds.updates.others i other) ∙ found
        ]);
        seed = j.base.settings.seed;
      }

      -- the elements stay
      pub within_items : (c : ChangesTable old new db) → (table_at new db).items ≡ (table_at old db).items → TableGrows m (table_at old db) (table_at new db) → Within refs_of scope old new m m
      within_items c items grown = within_table c grown (λ i e found apart. ap (λ list. at_item list i) (sym items) ∙ found)

-- ---- the store changes outside the databases

module _ {V : Type 0} {IsSound : Limits → ℕ → Blocks → V → Type 0} (refs_of : Blocks → V → List BlockRef) (value_of : Blocks → V → Value) (own : ReadsOwn refs_of value_of IsSound) where
  -- a store that changes only blocks that were out leaves the databases within any scope
  pub within_store : (scope : Scope) (bases : Bases V) (m after : Blocks) (out xs ys : List BlockRef) → IsIntact refs_of IsSound bases m out → Changes m after xs ys
      → ((r : BlockRef) → times r xs ≤ times r out) → Within refs_of scope bases bases m after
  within_store scope bases m after out xs ys intact p part = record {
    same = λ db apart. refl;
    grew = λ db. inl (record {
      keys = served_same _ _ (keyed_frame m after (table_at bases db) (intact.arranged.keyed db) (λ at e found. key_kept db at e found)).1;
      deadlines = served_same _ _ (keyed_frame m after (deadlines_at bases db).table (intact.arranged.timed db).keyed (λ at e found.
          (let n = (intact.arranged.timed db).names at e found in ap after (sym n.same) ∙ key_kept db n.at n.element n.found ∙ ap m n.same))).1;
      cursor = refl;
    });
    stayed = λ db at e found apart. record { stood = found; bytes = λ r owns. kept db at e found r owns; refs = own.refs m after e.value (λ r owns. kept db at e found r (omega (arith, owns))) };
    seed = refl;
  }
    where
      kept : (db at : ℕ) (e : Element V) → item (table_at bases db) at ≡ Some e → (r : BlockRef) → 0 < times r (e.key ∷ refs_of m e.value) → after r ≡ m r
      kept db at e found r owns = kept_inside refs_of value_of own bases m after out xs ys intact p part r
          (omega (arith, owns, named_in (refs_of m) (table_at bases db) at e r found, table_owned (refs_of m) bases db r))

      key_kept : (db at : ℕ) (e : Element V) → item (table_at bases db) at ≡ Some e → after e.key ≡ m e.key
      key_kept db at e found = kept db at e found e.key (let itself : one_if (ref_eq e.key e.key) ≡ 1 = cond-true _ _ _ (ref_eq_refl e.key) in omega (arith, itself))
