-- The calls of a keyspace, step by step.
use Rattle.std.proofs.Common.{◌≡◌, ◌⊎◌, inl, inr, ℕ, zero, suc, ◌+◌, ◌≤◌, ◌<◌, false, true, List, [], ◌∷◌, ◌++◌, length, flat_map, replicate, get_or, Option, Some, None, is_some, Result}
use Rattle.std.proofs.Common.{Ok, Err, OnOk, OnErr, IfSome, refl, sym, ap, ◌∙◌, subst, arith}
use Rattle.object_codec.specs.declared.limits.Limits.{Limits}
use Rattle.std.specs.FinMap.{get, insert, remove}
use Rattle.std.proofs.lemmas.Bool.{cases_eq}
use Rattle.blocks.specs.declared.BlockRef.{BlockRef}
use Rattle.blocks.specs.Blocks.{Blocks, times, live, bytes_at, with_block, no_blocks, no_step, Changes, Owned}
use Rattle.blocks.proofs.Times.{times-append}
use Rattle.blocks.proofs.Refs.{with_block_same}
use Rattle.blocks.proofs.Change.{with_block_undone, counts_ended, changes_counted, changes_same, changes_then, changes_beside}
use Rattle.object_codec.specs.Limits.{AreInRange}
use Rattle.plain_world.specs.Worlds.{Value, Entry, with_base, look, put, Database, in_time, deadline_of}
use Rattle.plain_world.specs.Worlds as model
use Rattle.plain_world.proofs.Lives.{look_in_time, look_gone, look_absent, put_twice}
use Rattle.rehash_dict.specs.Keyed.{key_tables}
use Rattle.expiry.specs.Timed.{Timed, moments, Grows, KeepsCursor}
use Rattle.expiry.specs.Changes.{HasDeadline, Sets, Clears}
use Rattle.held.specs.declared.databases.Base.{Base}
use Rattle.held.specs.declared.keyspace.Lifted.{Lifted}
use Rattle.held.specs.Table.{Table, Element, item, value_at, key_at, no_keys, Stands, Lacks, Keyed, Swaps, Removes, TableGrows, refs, map_of}
use Rattle.held.specs.Databases.{Bases, no_base, base_at, table_at, deadlines_at, owned, base_means, with_deadlines, with_deadline, means, SameSettings, ChangesBase, ChangesTable, ChangesDeadlines}
use Rattle.stored.specs.Owning.{ReadsOwn, IsBlank}
use Rattle.held.specs.Sound.{IsTimed, HasSeed, IsArranged, IsIntact, IsIntactWith, SoundBeside}
use Rattle.held.specs.Worlds.{without}
use Rattle.held.specs.Calls.{HasOnly, Found, StandsAt, IsPlace, IsVacant, Lifts, AreParts, IsDeadline, Joins, KeepsTimes}
use Rattle.rehash_dict.proofs.MapOf.{cases_key, map_of_stands, map_of_lacks, map_of_empty, map_of_removes, map_of_had, map_of_kept}
use Rattle.held.specs.Scopes.{Scope, one_key, no_key, all_keys, BaseGrows, AreGrown, Within}
use Rattle.held.specs.Written.{KeepBytes}
use Rattle.held.proofs.Within.{within_then, within_keys, within_times, within_swaps, within_removes, within_joins, within_anew, within_store}
use Rattle.held.proofs.Maps.{entry_with, get_with, with_none, got_deadline}
use Rattle.held.proofs.Tables.{key_itself, some_bytes, named_in, keyed_none}
use Rattle.held.proofs.Timing.{timed_sets, timed_clears, timed_none, untimed, moments_lack}
use Rattle.held.proofs.Joining.{sets_seed}
use Rattle.held.proofs.Bases.{InOrder, order_swaps, order_removes, order_times, base_then, order_then, owned_out, table_owned, owned_changed, owned_times, owned_joins, owned_swaps}
use Rattle.held.proofs.Bases.{owned_leaves, kept_named, kept_inside, arranged_out, arranged_changed, means_out, intact_out, means_changed, remove_base, swapped_intact, swapped_means}
use Rattle.held.proofs.Bases.{joined_intact, joined_means, retimed_means, same_times}

-- a database without a key means none
pub no_base_means : {V : Type 0} (value_of : Blocks → V → Value) (m : Blocks) (number : ℕ) → base_means value_of m (no_base {V = V} number) ≡ model.no_keys
no_base_means {V} value_of m number = ap (λ values. with_deadlines values (moments m (no_base {V = V} number).deadlines)) (map_of_empty m (value_of m) (no_keys number) refl)
    ∙ with_none (moments m (no_base {V = V} number).deadlines)

module _ {V : Type 0} (refs_of : V → List BlockRef) where
  -- an element's references are among those that the databases own
  pub item_owned : (bases : Bases V) (db at : ℕ) (e : Element V) (r : BlockRef) → item (table_at bases db) at ≡ Some e → times r (e.key ∷ refs_of e.value) ≤ times r (owned refs_of bases)
  item_owned bases db at e r found = omega (arith, named_in refs_of (table_at bases db) at e r found, table_owned refs_of bases db r)

module _ {V : Type 0} {IsSound : Limits → ℕ → Blocks → V → Type 0} (refs_of : Blocks → V → List BlockRef) (value_of : Blocks → V → Value) (own : ReadsOwn refs_of value_of IsSound) where
  -- databases that are intact with a value that is handed in are intact with it out of them
  pub with_intact : {bases : Bases V} {m : Blocks} {value : V} → IsIntactWith refs_of IsSound bases m value → IsIntact refs_of IsSound bases m (refs_of m value)
  with_intact takes = record { owned = takes.owned; arranged = takes.arranged }

  -- what stands at a key of a database, or doesn't
  module _ (bases : Bases V) (db : ℕ) (m : Blocks) (a : IsArranged IsSound bases m) (key : List ℕ) where
    -- what stands at a key is the value that its table means there, with the deadline of the key
    pub look_is : look (means value_of db bases m) key ≡ entry_with (get (map_of m (value_of m) (table_at bases db)) key) (get (moments m (deadlines_at bases db)) key)
    look_is = get_with (moments m (deadlines_at bases db)) (map_of m (value_of m) (table_at bases db)) key

    -- nothing stands at a key that no element has
    pub look_lacks : Lacks m (table_at bases db) key → look (means value_of db bases m) key ≡ None
    look_lacks lacks = look_is ∙ ap (λ o. entry_with o (get (moments m (deadlines_at bases db)) key)) (map_of_lacks m (value_of m) (table_at bases db) key (a.keyed db) lacks)

    -- at the key of an element stands what its value means, with the deadline of the key
    pub look_stands : (at : ℕ) (e : Element V) → item (table_at bases db) at ≡ Some e → m e.key ≡ Some key → (deadline : Option ℕ) → get (moments m (deadlines_at bases db)) key ≡ deadline
        → look (means value_of db bases m) key ≡ Some (record { value = value_of m e.value; deadline = deadline })
    look_stands at e found bytes deadline lasts = look_is ∙ (λ i. entry_with (map_of_stands m (value_of m) (table_at bases db) at e key (a.keyed db) found bytes i) (lasts i))

    -- a key that isn't there has no deadline
    pub lacks_deadline : Lacks m (table_at bases db) key → get (moments m (deadlines_at bases db)) key ≡ None
    lacks_deadline lacks = moments_lack m (deadlines_at bases db) key (a.timed db).keyed (untimed m (table_at bases db) (deadlines_at bases db) key (a.timed db) lacks)

    -- the deadline that the world has
    pub deadline_seen : get (moments m (deadlines_at bases db)) key ≡ deadline_of (look (means value_of db bases m) key)
    deadline_seen = elim (cases_key m (table_at bases db) key (a.keyed db)) [
      | inl s ↦ sym (ap deadline_of (look_stands s.at s.element s.found s.bytes _ refl))
      | inr lacks ↦ lacks_deadline lacks ∙ sym (ap deadline_of (look_lacks lacks))
    ]

    -- a deadline that a key has is at most the greatest one
    pub deadline_latest : (o : Option ℕ) → IfSome o (λ d. HasDeadline m (deadlines_at bases db).table key d) → IsDeadline o
    deadline_latest None found = tt
    deadline_latest (Some d) found = (a.timed db).latest found.at _ found.found

  -- ---- keys leave a table with their values, and all their blocks are given back

  module _ (old new : Bases V) (db : ℕ) (m after : Blocks) (c : ChangesBase old new db) (intact : IsIntact refs_of IsSound old m []) (xs : List BlockRef)
      (gone : (r : BlockRef) → times r (owned (refs_of m) old) ≡ times r (owned (refs_of m) new) + times r xs) (order : InOrder IsSound m old new db) where
    -- the blocks of what leaves are live, none of them named twice
    pub left_owned : Owned xs m
    left_owned r = omega (arith, intact.owned r, gone r)

    -- the databases without what leaves are intact, with its blocks out of them
    left_out : IsIntact refs_of IsSound new m xs
    left_out = record { owned = λ r. omega (arith, intact.owned r, gone r); arranged = arranged_changed refs_of value_of own old new db m c intact.arranged order }

    module _ (p : Changes m after xs []) where
      -- where the blocks of what left are given back, the databases are arranged
      pub left_arranged : IsArranged IsSound new after
      left_arranged = arranged_out refs_of value_of own new m after xs xs [] left_out p (λ r. omega arith)

      -- giving back the blocks of what left puts what the databases own in place of what they owned
      pub left_changes : Changes m after (owned (refs_of m) old) (owned (refs_of after) new)
      left_changes = changes_beside m after xs [] (owned (refs_of m) old) (owned (refs_of after) new) p (λ r. omega (arith, intact.owned r)) (λ r. times r (owned (refs_of m) new))
          (λ r. omega (arith, gone r)) (λ r. omega (arith, ap (times r) (owned_out refs_of value_of own new m after xs xs [] left_out p (λ r. omega arith))))

      -- what the database means over the store before is what it means afterwards
      pub left_means : (base : Database) → base_means value_of m (base_at new db) ≡ base → means value_of db new after ≡ with_base (means value_of db old m) base
      left_means base is =
          means_out refs_of value_of own new m after xs xs [] left_out p (λ r. omega arith) db
          ∙ means_changed refs_of value_of own old new db m c base is

  -- a key's deadline goes, and then the key
  module _ (old mid : Bases V) (db : ℕ) (m : Blocks) (a : IsArranged IsSound old m) (key : List ℕ) (c : ChangesDeadlines old mid db)
      (times_are : moments m (deadlines_at mid db) ≡ remove (moments m (deadlines_at old db)) key)
      (cleared : Clears m (deadlines_at old db).table (deadlines_at mid db).table key ⊎ ((mid ≡ old) × Lacks m (deadlines_at old db).table key))
      (times_keyed : Keyed m (deadlines_at mid db).table) where
    -- where a key's deadline goes, the table of deadlines keeps its seed
    clear_seed : (deadlines_at mid db).table.seed ≡ (deadlines_at old db).table.seed
    clear_seed = elim cleared [ inl x ↦ x.removes.seed | inr same ↦ ap (λ (b : Bases V). (deadlines_at b db).table.seed) same.0 ]

    -- where a key's deadline goes, the key has none, and each that is left is that of a key
    clear_timed : IsTimed m (table_at old db) (deadlines_at mid db) × Lacks m (deadlines_at mid db).table key
    clear_timed = timed_clears m (table_at old db) (deadlines_at old db) (deadlines_at mid db) key
        (elim cleared [ inl x ↦ inl x | inr same ↦ inr (ap (λ (b : Bases V). deadlines_at b db) same.0, same.1) ]) times_keyed (a.timed db)

    -- where a key's deadline goes, the database stays in order
    pub clear_order : InOrder IsSound m old mid db
    clear_order = order_times m old mid db a c clear_timed.0 clear_seed

    -- where a key's deadline goes, the databases stay arranged
    pub clear_arranged : IsArranged IsSound mid m
    clear_arranged = arranged_changed refs_of value_of own old mid db m c.base a clear_order

    -- where a key's deadline goes, the databases stay sound beside what is out of them
    pub cleared_sound : (new : Bases V) → new ≡ mid → (out : List BlockRef) → SoundBeside refs_of IsSound old m out → SoundBeside refs_of IsSound new m out
    cleared_sound new same out sound = subst (λ (b : Bases V). SoundBeside refs_of IsSound b m out) (sym same)
        (record { owns = λ r. omega (arith, sound.owns r, owned_times (refs_of m) old mid db c r); arranged = clear_arranged })

    -- nothing stood there
    module _ (lacks : Lacks m (table_at mid db) key) where
      -- a key that is absent once its deadline went was absent before
      pub absent_lacks : Lacks m (table_at old db) key
      absent_lacks = subst (λ (k : Table V). Lacks m k key) c.keys lacks

      -- where the deadline of an absent key goes, the world is the old one without the key
      pub absent_means : means value_of db mid m ≡ without (means value_of db old m) key
      absent_means =
          means_changed refs_of value_of own old mid db m c.base _
          (remove_base refs_of value_of own old mid db m key
          (ap (map_of m (value_of m)) c.keys ∙ map_of_kept m (value_of m) (table_at old db) (table_at old db) (a.keyed db) key refl absent_lacks) times_are)

    module _ (new : Bases V) (d : ChangesTable mid new db) (ref : BlockRef) (value : V) (removes : Removes m (table_at mid db) (table_at new db) key ref value)
        (keyed : Keyed m (table_at new db)) where
      -- where a key's deadline goes and then the key, no other database changes
      pub drop_changes : ChangesBase old new db
      drop_changes = base_then old mid new db c.base d.base

      -- where a key's deadline goes and then the key, the database stays in order
      pub drop_order : InOrder IsSound m old new db
      drop_order = order_then old mid new db m c.base clear_order (order_removes m mid new db clear_arranged d keyed key ref value removes clear_timed.1)

      -- where a key leaves after its deadline, the key's own block and its value's are those no longer owned
      pub drop_gone : (r : BlockRef) → times r (owned (refs_of m) old) ≡ times r (owned (refs_of m) new) + times r (ref ∷ refs_of m value)
      drop_gone r = omega (arith, owned_times (refs_of m) old mid db c r, owned_leaves (refs_of m) mid new db d.base r m key ref value removes)

      -- where a key leaves after its deadline, the database means what it meant without the key
      pub drop_base : base_means value_of m (base_at new db) ≡ remove (base_means value_of m (base_at old db)) key
      drop_base = remove_base refs_of value_of own old new db m key
          (map_of_removes m (value_of m) (table_at mid db) (table_at new db) (clear_arranged.keyed db) key ref value keyed removes ∙ ap (λ (k : Table V). remove (map_of m (value_of m) k) key) c.keys)
          (ap (moments m) d.deadlines ∙ times_are)

      -- the key was there
      pub drop_had : get (map_of m (value_of m) (table_at old db)) key ≡ Some (value_of m value)
      drop_had = ap (λ (k : Table V). get (map_of m (value_of m) k) key) (sym c.keys) ∙ map_of_had m (value_of m) (table_at mid db) (table_at new db) (clear_arranged.keyed db) key ref value removes

  -- where only deadlines changed the databases own the same blocks of the same store
  pub cleared_changes : (old mid new : Bases V) (db : ℕ) (m : Blocks) → IsIntact refs_of IsSound old m [] → ChangesDeadlines old mid db → new ≡ mid
      → Changes m m (owned (refs_of m) old) (owned (refs_of m) new)
  cleared_changes old mid new db m intact c same = subst (λ (b : Bases V). Changes m m (owned (refs_of m) old) (owned (refs_of m) b)) (sym same)
      (changes_beside m m [] [] (owned (refs_of m) old) (owned (refs_of m) mid) (changes_same m [] (λ q. omega arith)) (λ r. omega (arith, intact.owned r))
      (λ r. times r (owned (refs_of m) old)) (λ r. omega arith) (λ r. omega (arith, owned_times (refs_of m) old mid db c r)))

  -- a key's deadline goes, then the key, and its blocks are given back
  module _ (old mid : Bases V) (db : ℕ) (m : Blocks) (intact : IsIntact refs_of IsSound old m []) (key : List ℕ) (c : ChangesDeadlines old mid db)
      (times_are : moments m (deadlines_at mid db) ≡ remove (moments m (deadlines_at old db)) key)
      (cleared : Clears m (deadlines_at old db).table (deadlines_at mid db).table key ⊎ ((mid ≡ old) × Lacks m (deadlines_at old db).table key))
      (times_keyed : Keyed m (deadlines_at mid db).table) (new : Bases V) (d : ChangesTable mid new db) (ref : BlockRef) (value : V)
      (removes : Removes m (table_at mid db) (table_at new db) key ref value) (keyed : Keyed m (table_at new db)) where
    -- the databases owned the key's block and its value's besides what they own
    gone : (r : BlockRef) → times r (owned (refs_of m) old) ≡ times r (owned (refs_of m) new) + times r (ref ∷ refs_of m value)
    gone = drop_gone old mid db m intact.arranged key c times_are cleared times_keyed new d ref value removes keyed

    -- no database changes but the one that the key and its deadline leave
    base : ChangesBase old new db
    base = drop_changes old mid db m intact.arranged key c times_are cleared times_keyed new d ref value removes keyed

    -- the database that the key and its deadline leave stays in order
    order : InOrder IsSound m old new db
    order = drop_order old mid db m intact.arranged key c times_are cleared times_keyed new d ref value removes keyed

    -- the key's block and its value's are live, none of them named twice
    -- its value is sound
    pub dropped_sound : IsSound old.limits old.seed m value
    dropped_sound = intact.arranged.values db removes.at (record { key = ref; hash = removes.hash; value = value }) (ap (λ (k : Table V). item k removes.at) (sym c.keys) ∙ removes.found)

    pub dropped_owned : Owned (ref ∷ refs_of m value) m
    dropped_owned = left_owned old new db m m base intact (ref ∷ refs_of m value) gone order

    -- the deadline leaves its table, the key its own, and their blocks are given back
    pub dropped_within : Grows m (deadlines_at old db) (deadlines_at mid db) → KeepsCursor (deadlines_at old db) (deadlines_at mid db) → TableGrows m (table_at mid db) (table_at new db)
        → db < 16 → (after : Blocks) → Changes m after (ref ∷ refs_of m value) [] → Within refs_of (no_key db) old new m after
    dropped_within grown cursor keys_grown below after p =
        within_then refs_of (no_key db) old mid new m m after (within_times refs_of (no_key db) old mid m db refl intact.arranged below c grown cursor)
        (within_then refs_of (no_key db) mid new new m m after
        (within_removes refs_of (no_key db) mid new m db refl (clear_arranged old mid db m intact.arranged key c times_are cleared times_keyed) below d key ref value removes keys_grown)
        (within_store refs_of value_of own (no_key db) new m after (ref ∷ refs_of m value) (ref ∷ refs_of m value) []
        (left_out old new db m m base intact (ref ∷ refs_of m value) gone order) p (λ r. omega arith)))

    -- at the key that leaves stood its value, with the deadline that it had
    pub dropped_look : look (means value_of db old m) key ≡ Some (record { value = value_of m value; deadline = get (moments m (deadlines_at old db)) key })
    dropped_look = look_is old db m intact.arranged key ∙ ap (λ o. entry_with o (get (moments m (deadlines_at old db)) key))
        (drop_had old mid db m intact.arranged key c times_are cleared times_keyed new d ref value removes keyed)

    module _ (after : Blocks) (p : Changes m after (ref ∷ refs_of m value) []) where
      -- where a key left and its blocks were given back, the databases are arranged
      pub dropped_arranged : IsArranged IsSound new after
      dropped_arranged = left_arranged old new db m after base intact (ref ∷ refs_of m value) gone order p

      -- giving back the blocks of a key that left puts what the databases own in place of what they owned
      pub dropped_changes : Changes m after (owned (refs_of m) old) (owned (refs_of after) new)
      dropped_changes = left_changes old new db m after base intact (ref ∷ refs_of m value) gone order p

      -- where a key left and its blocks were given back, the world is the old one without the key
      pub dropped_means : means value_of db new after ≡ without (means value_of db old m) key
      dropped_means = left_means old new db m after base intact (ref ∷ refs_of m value) gone order p _
          (drop_base old mid db m intact.arranged key c times_are cleared times_keyed new d ref value removes keyed)

  -- all keys leave
  module _ (old new : Bases V) (db seed : ℕ) (c : ChangesBase old new db) (none : base_at new db ≡ no_base seed) where
    -- where all keys of a database leave, the databases owned its table's blocks besides what they own
    pub all_gone : (m : Blocks) (r : BlockRef) → times r (owned (refs_of m) old) ≡ times r (owned (refs_of m) new) + times r (refs (refs_of m) (table_at old db))
    all_gone m r =
        let nothing : times r (refs (refs_of m) (table_at new db)) ≡ 0 = ap (λ (b : Base V). times r (refs (refs_of m) b.keys)) none in
        omega (arith, owned_changed (refs_of m) old new db c r, nothing)

    -- a database that all keys left is in order, where it has the seed of the databases
    pub all_order : (m : Blocks) → seed ≡ old.seed → InOrder IsSound m old new db
    all_order m same = record {
      keyed = subst (λ (b : Base V). Keyed m b.keys) (sym none) (keyed_none m seed);
      timed = subst (λ (b : Base V). IsTimed m b.keys b.deadlines) (sym none) (timed_none m seed seed);
      values = λ at e found. (let nothing : Some e ≡ None = sym found ∙ ap (λ (b : Base V). item b.keys at) none in absurd cc);
      seeds = λ h. subst (λ (b : Base V). HasSeed b old.seed) (sym none) (record { keys = same; deadlines = same });
    }

    -- that all keys of a database leave and their blocks are given back is within the scope of all its keys
    pub all_within : (m after : Blocks) → IsIntact refs_of IsSound old m [] → seed ≡ old.seed → Changes m after (refs (refs_of m) (table_at old db)) [] → Within refs_of (all_keys db) old new m after
    all_within m after intact same p =
        within_then refs_of (all_keys db) old new new m m after (within_anew refs_of (all_keys db) old new m db refl c refl (none ∙ ap no_base same))
        (within_store refs_of value_of own (all_keys db) new m after (refs (refs_of m) (table_at old db)) (refs (refs_of m) (table_at old db)) []
        (left_out old new db m m c intact (refs (refs_of m) (table_at old db)) (all_gone m) (all_order m same)) p (λ r. omega arith))

    -- a database that all keys left means no key
    pub all_means : (m : Blocks) → base_means value_of m (base_at new db) ≡ model.no_keys
    all_means m = ap (base_means value_of m) none ∙ no_base_means value_of m seed

  -- ---- a value takes the place of another

  module _ (old new : Bases V) (db : ℕ) (m : Blocks) (c : ChangesTable old new db) (at : ℕ) (was value : V) (s : Swaps (table_at old db) (table_at new db) at was value)
      (keyed : Keyed m (table_at new db)) (a : IsArranged IsSound old m) where
    -- the element that was found there is the one that changes
    pub swapped_key : (key : List ℕ) → Stands m (table_at old db) at key → m s.key ≡ Some key
    swapped_key key stands =
        let same : stands.element ≡ record { key = s.key; hash = s.hash; value = was } =
        (let both : Some stands.element ≡ Some (record { key = s.key; hash = s.hash; value = was }) = sym stands.found ∙ s.found in cc) in
        ap (λ (e : Element V). m e.key) (sym same) ∙ stands.bytes

    -- where a value takes the place of another, its database stays in order
    over_order : IsSound old.limits old.seed m value → InOrder IsSound m old new db
    over_order sound = order_swaps m old new db a c keyed at was value s sound

    -- where a value takes the place of another, the databases stay intact with the other out of them instead
    pub over_intact : IsSound old.limits old.seed m value → (out later : List BlockRef) → IsIntact refs_of IsSound old m out
        → ((r : BlockRef) → times r later + times r (refs_of m value) ≡ times r out + times r (refs_of m was)) → IsIntact refs_of IsSound new m later
    over_intact sound out later intact same = swapped_intact refs_of value_of own old new db m c.base out intact (over_order sound) at was value s later same

    module _ (takes : IsIntactWith refs_of IsSound old m value) (after : Blocks) (p : Changes m after (refs_of m was) []) where
      intact_over : IsIntact refs_of IsSound old m (refs_of m value)
      intact_over = with_intact takes

      -- where the value that was out takes the place of another, that one is out of intact databases
      over_out : IsIntact refs_of IsSound new m (refs_of m was)
      over_out = over_intact takes.sound (refs_of m value) (refs_of m was) intact_over (λ r. omega arith)

      -- where the value that lost its place is given back, the databases are arranged
      pub over_arranged : IsArranged IsSound new after
      over_arranged = arranged_out refs_of value_of own new m after (refs_of m was) (refs_of m was) [] over_out p (λ r. omega arith)

      -- where the value that lost its place is given back, the new one is put at its key with the key's deadline
      pub over_means : (key : List ℕ) → Stands m (table_at old db) at key → (deadline : Option ℕ) → get (moments m (deadlines_at old db)) key ≡ deadline
          → means value_of db new after ≡ put (means value_of db old m) key (record { value = value_of m value; deadline = deadline })
      over_means key stands deadline lasts =
          means_out refs_of value_of own new m after (refs_of m was) (refs_of m was) [] over_out p (λ r. omega arith) db
          ∙ swapped_means refs_of value_of own old new db m a at c keyed was value s key (swapped_key key stands) deadline lasts

      -- giving back the old value puts what is owned in place of what was owned and the new value's blocks
      pub over_changes : Changes m after (owned (refs_of m) old ++ refs_of m value) (owned (refs_of after) new)
      over_changes = changes_beside m after (refs_of m was) [] (owned (refs_of m) old ++ refs_of m value) (owned (refs_of after) new) p
          (λ r. omega (arith, intact_over.owned r, times-append r (owned (refs_of m) old) (refs_of m value))) (λ r. times r (owned (refs_of m) new))
          (λ r. omega (arith, times-append r (owned (refs_of m) old) (refs_of m value), owned_swaps (refs_of m) old new db c.base r at was value s))
          (λ r. omega (arith, ap (times r) (owned_out refs_of value_of own new m after (refs_of m was) (refs_of m was) [] over_out p (λ r. omega arith))))

    -- the value that was there owns live blocks
    pub over_owned : (out : List BlockRef) → IsIntact refs_of IsSound old m out → Owned (refs_of m was) m
    over_owned out intact r = omega (arith, intact.owned r, item_owned (refs_of m) old db at (record { key = s.key; hash = s.hash; value = was }) r s.found)

  -- ---- a key's deadline is set or goes

  module _ (old mid : Bases V) (db : ℕ) (m : Blocks) (c : ChangesDeadlines old mid db) (a : IsArranged IsSound mid m) where
    -- intact databases stay intact where deadlines alone change and are in order
    pub retimed_intact : (out : List BlockRef) → IsIntact refs_of IsSound old m out → IsIntact refs_of IsSound mid m out
    retimed_intact out intact = record { owned = λ r. omega (arith, intact.owned r, owned_times (refs_of m) old mid db c r); arranged = a }

    -- and so they do with a value that is handed in
    pub retimed_with : (value : V) → IsIntactWith refs_of IsSound old m value → IsIntactWith refs_of IsSound mid m value
    retimed_with value takes = record {
      owned = λ r. omega (arith, takes.owned r, owned_times (refs_of m) old mid db c r);
      arranged = a;
      sound = subst (λ limits. IsSound limits mid.seed m value) (sym c.base.settings.limits) (subst (λ seed. IsSound old.limits seed m value) (sym c.base.settings.seed) takes.sound);
    }

    -- sound databases stay sound beside what is out where deadlines alone change and are in order
    pub retimed_sound : (out : List BlockRef) → SoundBeside refs_of IsSound old m out → SoundBeside refs_of IsSound mid m out
    retimed_sound out sound = record { owns = λ r. omega (arith, sound.owns r, owned_times (refs_of m) old mid db c r); arranged = a }

    -- a change of the store from what is owned once a deadline changed is one from what was owned before
    pub retimed_changes : (after : Blocks) (part : List BlockRef) (new : Bases V) → IsIntact refs_of IsSound old m part
        → Changes m after (owned (refs_of m) mid ++ part) (owned (refs_of after) new) → Changes m after (owned (refs_of m) old ++ part) (owned (refs_of after) new)
    retimed_changes after part new intact p =
        changes_then m m after (owned (refs_of m) old ++ part) (owned (refs_of m) mid ++ part) (owned (refs_of after) new)
        (changes_beside m m [] [] (owned (refs_of m) old ++ part) (owned (refs_of m) mid ++ part) (changes_same m [] (λ q. omega arith))
        (λ r. omega (arith, intact.owned r, times-append r (owned (refs_of m) old) part)) (λ r. times r (owned (refs_of m) old) + times r part)
        (λ r. omega (arith, times-append r (owned (refs_of m) old) part)) (λ r. omega (arith, times-append r (owned (refs_of m) mid) part, owned_times (refs_of m) old mid db c r))) p

    module _ (arranged : IsArranged IsSound old m) (at : ℕ) (key : List ℕ) (stands : Stands m (table_at old db) at key) (deadline : Option ℕ)
        (times_are : moments m (deadlines_at mid db) ≡ with_deadline (moments m (deadlines_at old db)) key deadline) where
      -- the key has the deadline that was set, or none where it went
      pub retimed_lasts : get (moments m (deadlines_at mid db)) key ≡ deadline
      retimed_lasts = ap (λ t. get t key) times_are ∙ got_deadline (moments m (deadlines_at old db)) key deadline

      -- where a key's deadline is set or goes, the key stays at its item number
      pub retimed_stands : Stands m (table_at mid db) at key
      retimed_stands = subst (λ (k : Table V). Stands m k at key) (sym c.keys) stands

      -- where a key's deadline is set or goes, its value is put at the key with this deadline or without one
      pub retimed_put : means value_of db mid m ≡ put (means value_of db old m) key (record { value = value_of m stands.element.value; deadline = deadline })
      retimed_put = retimed_means refs_of value_of own old mid db m c key (value_of m stands.element.value)
          (map_of_stands m (value_of m) (table_at old db) at stands.element key (arranged.keyed db) stands.found stands.bytes) deadline times_are

      -- the key's own value, whatever its deadline was
      pub retimed_entry : (entry : Entry) → look (means value_of db old m) key ≡ Some entry
          → means value_of db mid m ≡ put (means value_of db old m) key (record { value = entry.value; deadline = deadline })
      retimed_entry entry is =
          let both : Some (record { value = value_of m stands.element.value; deadline = get (moments m (deadlines_at old db)) key }) ≡ Some entry =
          sym (look_stands old db m arranged key at stands.element stands.found stands.bytes _ refl) ∙ is in
          let same : record { value = value_of m stands.element.value; deadline = get (moments m (deadlines_at old db)) key } ≡ entry = cc in
          retimed_put ∙ ap (λ (e : Entry). put (means value_of db old m) key (record { value = e.value; deadline = deadline })) same

  -- the key of an item number gets a deadline
  module _ (old mid : Bases V) (db : ℕ) (m : Blocks) (a : IsArranged IsSound old m) (at : ℕ) (key : List ℕ) (stands : Stands m (table_at old db) at key) (name : BlockRef)
      (is : key_at (item (table_at old db) at) ≡ Some name) where
    -- the key's element is named by the block that its item number shows
    named : stands.element.key ≡ name
    named = (let both : Some stands.element.key ≡ Some name = sym (ap key_at stands.found) ∙ is in cc)

    -- this block holds the bytes of the key
    bytes : m name ≡ Some key
    bytes = ap m (sym named) ∙ stands.bytes

    -- the databases stay arranged where a key gets a deadline, or where that fails and nothing changes
    pub set_arranged : {E : Type 0} (d : ℕ) (deadline : Option ℕ) → deadline ≡ Some d → IsDeadline deadline → (result : Result (Unit {0}) E) → ChangesDeadlines old mid db
        → OnOk result (Sets m (deadlines_at old db).table (deadlines_at mid db).table name d) → Keyed m (deadlines_at mid db).table → OnErr result (mid ≡ old) → IsArranged IsSound mid m
    set_arranged d deadline some late (Ok u) c sets keyed err =
        arranged_changed refs_of value_of own old mid db m c.base a (order_times m old mid db a c
        (timed_sets m (table_at old db) (deadlines_at old db) (deadlines_at mid db) name d sets keyed (a.keyed db) (ap is_some bytes)
        (record { at = at; element = stands.element; found = stands.found; same = named }) (subst IsDeadline some late) (a.timed db))
        (sets_seed m name (deadlines_at old db) (deadlines_at mid db) d sets))
    set_arranged d deadline some late (Err e) c sets keyed err = subst (λ (b : Bases V). IsArranged IsSound b m) (sym err) a

    -- a deadline that was set at the bytes of the key's block was set at the key
    pub set_times : {E : Type 0} (d : ℕ) (deadline : Option ℕ) → deadline ≡ Some d → (result : Result (Unit {0}) E)
        → OnOk result (moments m (deadlines_at mid db) ≡ insert (moments m (deadlines_at old db)) (bytes_at m name) d)
        → OnOk result (moments m (deadlines_at mid db) ≡ with_deadline (moments m (deadlines_at old db)) key deadline)
    set_times d deadline some (Ok u) times = times ∙ ap (λ k. insert (moments m (deadlines_at old db)) k d) (some_bytes m name key bytes)
        ∙ sym (ap (with_deadline (moments m (deadlines_at old db)) key) some)
    set_times d deadline some (Err e) times = tt

  -- no other element has the key of this one
  pub only_here : (bases : Bases V) (m : Blocks) (db : ℕ) (key : List ℕ) (at : ℕ) (e : Element V) → Keyed m (table_at bases db) → item (table_at bases db) at ≡ Some e → m e.key ≡ Some key
      → HasOnly bases m db key e.value
  only_here bases m db key at e keyed here named other f found bytes =
      let same : other ≡ at = keyed.apart other at f e found here (bytes ∙ sym named) in
      let both : Some f ≡ Some e = sym found ∙ ap (item (table_at bases db)) same ∙ here in
      let one : f ≡ e = cc in
      ap (λ (x : Element V). x.value) one

  -- a key's deadline is set, and a value takes the place of its own
  module _ (old mid new : Bases V) (db : ℕ) (m after : Blocks) (at : ℕ) (key : List ℕ) (was value : V) (deadline : Option ℕ) (takes : IsIntactWith refs_of IsSound old m value)
      (c : ChangesDeadlines old mid db) (arranged : IsArranged IsSound mid m) (times_are : moments m (deadlines_at mid db) ≡ with_deadline (moments m (deadlines_at old db)) key deadline)
      (stands : Stands m (table_at old db) at key) (d : ChangesTable mid new db) (s : Swaps (table_at mid db) (table_at new db) at was value) (keyed : Keyed m (table_at new db)) where
    -- with the deadline set the databases are intact, the new value out of them
    mid_intact : IsIntactWith refs_of IsSound mid m value
    mid_intact = retimed_with old mid db m c arranged value takes

    intact_put : IsIntact refs_of IsSound old m (refs_of m value)
    intact_put = with_intact takes

    -- the value that loses its place owns live blocks, none of them named twice
    pub put_owned : Owned (refs_of m was) m
    put_owned = over_owned mid new db m d at was value s keyed arranged (refs_of m value) (with_intact mid_intact)

    -- and is sound
    pub put_was : IsSound mid.limits mid.seed m was
    put_was = arranged.values db at (record { key = s.key; hash = s.hash; value = was }) s.found

    module _ (p : Changes m after (refs_of m was) []) where
      -- where a key got a deadline and a new value, and its old one is given back, the databases are arranged
      pub put_arranged : IsArranged IsSound new after
      put_arranged = over_arranged mid new db m d at was value s keyed arranged mid_intact after p

      -- giving back the old value puts what is owned in place of what was owned and the new value's blocks
      pub put_changes : Changes m after (owned (refs_of m) old ++ refs_of m value) (owned (refs_of after) new)
      put_changes = retimed_changes old mid db m c arranged after (refs_of m value) new intact_put (over_changes mid new db m d at was value s keyed arranged mid_intact after p)

      -- that a key gets a deadline and a new value is within the scope of this key
      pub put_within : Within refs_of (no_key db) old mid m m → key_tables m (table_at new db) ≡ key_tables m (table_at mid db) → Within refs_of (one_key db key) old new m after
      put_within retimed tables =
          let scope = one_key db key in
          let there : m s.key ≡ Some key = swapped_key mid new db m d at was value s keyed arranged key (retimed_stands old mid db m c arranged intact_put.arranged at key stands deadline times_are) in
          within_then refs_of scope old mid new m m after (within_keys refs_of db (λ other. other ≡ key) old mid m m retimed)
          (within_then refs_of scope mid new new m m after (within_swaps refs_of scope mid new m db refl d at was value s tables (refl, some_bytes m s.key key there))
          (within_store refs_of value_of own scope new m after (refs_of m was) (refs_of m was) [] (over_out mid new db m d at was value s keyed arranged mid_intact after p) p (λ r. omega arith)))

      -- whatever element has the key has the value that was put
      pub put_only : HasOnly new after db key value
      put_only =
          let there : m s.key ≡ Some key = swapped_key mid new db m d at was value s keyed arranged key (retimed_stands old mid db m c arranged intact_put.arranged at key stands deadline times_are) in
          let kept = kept_inside refs_of value_of own new m after (refs_of m was) (refs_of m was) [] (over_out mid new db m d at was value s keyed arranged mid_intact after p) p
          (λ r. omega arith) s.key
          (omega (arith, key_itself s.key, item_owned (refs_of m) new db at (record { key = s.key; hash = s.hash; value = value }) s.key s.updates.changed)) in
          only_here new after db key at (record { key = s.key; hash = s.hash; value = value }) (put_arranged.keyed db) s.updates.changed (kept ∙ there)

      -- the value that was put has the blocks that it had
      pub put_blocks : KeepBytes m after (refs_of m value)
      put_blocks q named =
          kept_inside refs_of value_of own new m after (refs_of m was) (refs_of m was) [] (over_out mid new db m d at was value s keyed arranged mid_intact after p) p (λ r. omega arith) q
          (omega (arith, named, item_owned (refs_of m) new db at (record { key = s.key; hash = s.hash; value = value }) q s.updates.changed))

      -- where a key got a deadline and a new value, these are put at the key of the world
      pub put_over : means value_of db new after ≡ put (means value_of db old m) key (record { value = value_of m value; deadline = deadline })
      put_over =
          over_means mid new db m d at was value s keyed arranged mid_intact after p key (retimed_stands old mid db m c arranged intact_put.arranged at key stands deadline times_are)
          deadline (retimed_lasts old mid db m c arranged intact_put.arranged at key stands deadline times_are)
          ∙ ap (λ w. put w key (record { value = value_of m value; deadline = deadline })) (retimed_put old mid db m c arranged intact_put.arranged at key stands deadline times_are)
          ∙ put_twice (means value_of db old m) key _ _

  -- ---- a key joins with its value

  -- a key's block is placed
  module _ (old : Bases V) (m mid : Blocks) (r : BlockRef) (key : List ℕ) (value : V) (takes : IsIntactWith refs_of IsSound old m value) (placed : mid ≡ with_block m r (Some key))
      (p : Changes m mid [] (r ∷ [])) where
    intact_placed : IsIntact refs_of IsSound old m (refs_of m value)
    intact_placed = with_intact takes

    -- the block that was placed holds the bytes of the key
    pub placed_bytes : mid r ≡ Some key
    placed_bytes = ap (λ b. b r) placed ∙ with_block_same m r (Some key)

    -- where a key's block is placed, the value that is out has the blocks that it had
    pub placed_blocks : KeepBytes m mid (refs_of m value)
    placed_blocks q named = kept_named refs_of value_of own old m mid (refs_of m value) [] (r ∷ []) intact_placed p q (omega (arith, named)) refl

    -- where a key's block is placed, the value that is out owns what it owned
    placed_refs : refs_of mid value ≡ refs_of m value
    placed_refs = own.refs m mid value (λ q named. kept_named refs_of value_of own old m mid (refs_of m value) [] (r ∷ []) intact_placed p q (omega (arith, named)) refl)

    -- and so the databases do
    placed_owned : owned (refs_of mid) old ≡ owned (refs_of m) old
    placed_owned = owned_out refs_of value_of own old m mid (refs_of m value) [] (r ∷ []) intact_placed p (λ q. omega arith)

    -- where a key's block is placed, the databases are intact with it and the value out of them
    pub placed_intact : IsIntact refs_of IsSound old mid (r ∷ refs_of mid value)
    placed_intact = intact_out refs_of value_of own old m mid (refs_of m value) [] (r ∷ []) intact_placed p (λ q. omega arith) (r ∷ refs_of mid value) (λ q. omega (arith, ap (times q) placed_refs))

    -- where a key's block is placed, a key table that lacks the key still does
    pub placed_lacks : (db : ℕ) → Lacks m (table_at old db) key → Lacks mid (table_at old db) key
    placed_lacks db lacks = record {
      each = λ at e found same. lacks.each at e found
          (sym
          (kept_inside refs_of value_of own old m mid (refs_of m value) [] (r ∷ []) intact_placed p (λ q. omega arith) e.key
          (omega (arith, key_itself e.key, item_owned (refs_of m) old db at e e.key found))) ∙ same);
    }

    -- where a key's block is placed, the value that is out means what it meant
    placed_value : value_of mid value ≡ value_of m value
    placed_value = own.means m mid value (λ q named. kept_named refs_of value_of own old m mid (refs_of m value) [] (r ∷ []) intact_placed p q (omega (arith, named)) refl)

    -- where a key's block is placed, the value that is out stays sound
    placed_sound : IsSound old.limits old.seed mid value
    placed_sound = own.stays old.limits old.seed m mid value
        (λ q named. kept_named refs_of value_of own old m mid (refs_of m value) [] (r ∷ []) intact_placed p q (omega (arith, named)) refl) takes.sound

    -- where a key's block is placed, the databases mean the world that they meant
    placed_means : (db : ℕ) → means value_of db old mid ≡ means value_of db old m
    placed_means db = means_out refs_of value_of own old m mid (refs_of m value) [] (r ∷ []) intact_placed p (λ q. omega arith) db

    -- both stand in the table
    module _ (new : Bases V) (db : ℕ) (deadline : Option ℕ) (j : Joins old new mid db r key value deadline) where
      -- the database that the key joined with its value and its deadline is in order
      joined_order : InOrder IsSound mid old new db
      joined_order = record { keyed = j.keyed; timed = j.timed; values = each; seeds = λ h. record { keys = j.adds.seed ∙ h.keys; deadlines = j.seed ∙ h.deadlines } }
        where
          each : (i : ℕ) (e : Element V) → item (table_at new db) i ≡ Some e → IsSound old.limits old.seed mid e.value
          each i e found = elim (cases_eq i j.at) [
            | inl here ↦ (let changed : Some e ≡ Some (record { key = r; hash = j.hash; value = value }) = sym found ∙ ap (item (table_at new db)) here ∙ j.adds.updates.changed in
                let same : e ≡ record { key = r; hash = j.hash; value = value } = cc in
                subst (λ (x : Element V). IsSound old.limits old.seed mid x.value) (sym same) placed_sound)
            | inr other ↦ placed_intact.arranged.values db i e (sym (j.adds.updates.others i other) ∙ found)
          ]

      -- where a key joined, its value and its deadline are put at the key of the world
      pub new_means : means value_of db new mid ≡ put (means value_of db old m) key (record { value = value_of m value; deadline = deadline })
      new_means =
          joined_means refs_of value_of own old new db mid placed_intact.arranged j.at j.base j.keyed (record { key = r; hash = j.hash; value = value }) j.adds key placed_bytes deadline j.times
          ∙ (λ i. put (placed_means db i) key (record { value = placed_value i; deadline = deadline }))

      -- where a key joined, the databases are arranged
      pub new_arranged : IsArranged IsSound new mid
      new_arranged =
          (joined_intact refs_of value_of own old new db mid j.base (r ∷ refs_of mid value) placed_intact joined_order j.at (record { key = r; hash = j.hash; value = value }) j.adds []
          (λ q. omega arith)).arranged

      -- whatever element has the key that joined has the value that joined with it
      pub new_only : HasOnly new mid db key value
      new_only = only_here new mid db key j.at (record { key = r; hash = j.hash; value = value }) j.keyed j.adds.updates.changed placed_bytes

      -- that a key's block is placed and the key joins is within the scope of this key
      pub new_within : db < 16 → Within refs_of (one_key db key) old new m mid
      new_within below =
          within_then refs_of (one_key db key) old old new m mid mid (within_store refs_of value_of own (one_key db key) old m mid (refs_of m value) [] (r ∷ []) intact_placed p (λ q. omega arith))
          (within_joins refs_of (one_key db key) old new mid db refl placed_intact.arranged below r key value deadline j (refl, some_bytes mid r key placed_bytes))

      -- where a key joined, what is owned stands in place of what was owned and the value's blocks
      pub new_changes : Changes m mid (owned (refs_of m) old ++ refs_of m value) (owned (refs_of mid) new)
      new_changes = changes_beside m mid [] (r ∷ []) (owned (refs_of m) old ++ refs_of m value) (owned (refs_of mid) new) p
          (λ q. omega (arith, intact_placed.owned q, times-append q (owned (refs_of m) old) (refs_of m value))) (λ q. times q (owned (refs_of m) old) + times q (refs_of m value))
          (λ q. omega (arith, times-append q (owned (refs_of m) old) (refs_of m value)))
          (λ q. omega
          (arith, ap (times q) placed_owned, ap (times q) placed_refs, owned_joins (refs_of mid) old new db j.base q j.at (record { key = r; hash = j.hash; value = value }) j.adds))

    -- memory is refused: the key's block is given back, and the value stays out
    module _ (fresh : m r ≡ None) (new : Bases V) (db : ℕ) (k : KeepsTimes old new mid db) (after : Blocks) (ended : after ≡ with_block mid r None) where
      -- where keys and deadlines stay, the databases are arranged over the store with the key's block
      kept_arranged : IsArranged IsSound new mid
      kept_arranged = arranged_changed refs_of value_of own old new db mid k.changes.base placed_intact.arranged (order_times mid old new db placed_intact.arranged k.changes k.timed k.seed)

      -- where keys and deadlines stay, the databases are intact with the key's block and the value out of them
      kept_intact : IsIntact refs_of IsSound new mid (r ∷ refs_of mid value)
      kept_intact = retimed_intact old new db mid k.changes kept_arranged (r ∷ refs_of mid value) placed_intact

      -- giving back the key's block ends this block alone
      back_given : Changes mid after (r ∷ []) []
      back_given =
          changes_counted mid after (r ∷ []) [] (λ q. omega (arith, placed_intact.owned q))
          (counts_ended mid after r (r ∷ []) [] (ap is_some placed_bytes) ended (λ q. omega arith))

      -- with the key's block given back the store holds what it held before it was placed
      pub back_blocks : after ≡ m
      back_blocks = ended ∙ ap (λ b. with_block b r None) placed ∙ with_block_undone m r (Some key) fresh

      -- with the key's block given back the databases mean the world that they meant
      pub back_means : means value_of db new after ≡ means value_of db old m
      back_means =
          means_out refs_of value_of own new mid after (r ∷ refs_of mid value) (r ∷ []) [] kept_intact back_given (λ q. omega arith) db
          ∙ same_times refs_of value_of own old new db mid k.changes k.times ∙ placed_means db

      -- with the key's block given back the databases are arranged
      pub back_arranged : IsArranged IsSound new after
      back_arranged = arranged_out refs_of value_of own new mid after (r ∷ refs_of mid value) (r ∷ []) [] kept_intact back_given (λ q. omega arith)

      -- that a key's block is placed and given back is within the scope of this key
      pub back_within : db < 16 → Within refs_of (one_key db key) old new m after
      back_within below =
          let scope = one_key db key in
          within_then refs_of scope old old new m mid after (within_store refs_of value_of own scope old m mid (refs_of m value) [] (r ∷ []) intact_placed p (λ q. omega arith))
          (within_then refs_of scope old new new mid mid after (within_times refs_of scope old new mid db refl placed_intact.arranged below k.changes k.grown k.cursor)
          (within_store refs_of value_of own scope new mid after (r ∷ refs_of mid value) (r ∷ []) [] kept_intact back_given (λ q. omega arith)))

      -- where keys and deadlines stay, the databases own what they owned
      pub back_owned : (q : BlockRef) → times q (owned (refs_of after) new) ≡ times q (owned (refs_of m) old)
      back_owned q = ap (λ b. times q (owned (refs_of b) new)) back_blocks ∙ owned_times (refs_of m) old new db k.changes q

      -- where keys and deadlines stay, each key table is as it was
      pub back_keys : (number : ℕ) → table_at new number ≡ table_at old number
      back_keys number = elim (cases_eq number db) [
        | inl here ↦ ap (table_at new) here ∙ k.changes.keys ∙ sym (ap (table_at old) here)
        | inr other ↦ ap (λ (b : Base V). b.keys) (k.changes.base.others number other)
      ]

  -- the value that was handed back owns live blocks, and is given back
  pub returned_owned : (old : Bases V) (m mid : Blocks) (value returned : V) → IsIntactWith refs_of IsSound old m value → returned ≡ value → mid ≡ m → Owned (refs_of mid returned) mid
  returned_owned old m mid value returned intact same blocks =
      subst (λ b. Owned (refs_of b returned) b) (sym blocks) (subst (λ v. Owned (refs_of m v) m) (sym same) (λ q. omega (arith, intact.owned q)))

  -- and is sound
  pub returned_sound : (old : Bases V) (m mid : Blocks) (value returned : V) → IsIntactWith refs_of IsSound old m value → returned ≡ value → mid ≡ m → IsSound old.limits old.seed mid returned
  returned_sound old m mid value returned intact same blocks =
      subst (λ b. IsSound old.limits old.seed b returned) (sym blocks) (subst (λ v. IsSound old.limits old.seed m v) (sym same) intact.sound)

  -- giving back the value that was handed back ends the blocks of the value that was given
  pub returned_changes : (m mid after : Blocks) (value returned : V) → returned ≡ value → mid ≡ m → Changes mid after (refs_of mid returned) [] → Changes m after (refs_of m value) []
  returned_changes m mid after value returned same blocks p = subst (λ v. Changes m after (refs_of m v) []) same (subst (λ b. Changes b after (refs_of b returned) []) blocks p)

  -- where the store is as it was the databases own what they owned
  pub refused_owned : (old new : Bases V) (m mid : Blocks) → mid ≡ m → ((q : BlockRef) → times q (owned (refs_of mid) new) ≡ times q (owned (refs_of m) old)) → (q : BlockRef)
      → times q (owned (refs_of m) new) ≡ times q (owned (refs_of m) old)
  refused_owned old new m mid same owns q = ap (λ b. times q (owned (refs_of b) new)) (sym same) ∙ owns q

  -- the value alone is given back, where no key changed
  module _ (old new : Bases V) (m after : Blocks) (value : V) (takes : IsIntactWith refs_of IsSound old m value) (a : IsArranged IsSound new m)
      (same : (q : BlockRef) → times q (owned (refs_of m) new) ≡ times q (owned (refs_of m) old)) (p : Changes m after (refs_of m value) []) where
    intact_refused : IsIntact refs_of IsSound old m (refs_of m value)
    intact_refused = with_intact takes

    -- where arranged databases own what they owned, they are intact with the value out of them
    refused_intact : IsIntact refs_of IsSound new m (refs_of m value)
    refused_intact = record { owned = λ q. omega (arith, intact_refused.owned q, same q); arranged = a }

    -- with the value given back, databases that meant what they had meant still do
    pub refused_means : (db : ℕ) → means value_of db new m ≡ means value_of db old m → means value_of db new after ≡ means value_of db old m
    refused_means db kept = means_out refs_of value_of own new m after (refs_of m value) (refs_of m value) [] refused_intact p (λ q. omega arith) db ∙ kept

    -- with the value given back the databases are arranged
    pub refused_arranged : IsArranged IsSound new after
    refused_arranged = arranged_out refs_of value_of own new m after (refs_of m value) (refs_of m value) [] refused_intact p (λ q. omega arith)

    -- what came of a refused call within a scope is within it also with the value given back
    pub refused_within : (scope : Scope) → Within refs_of scope old new m m → Within refs_of scope old new m after
    refused_within scope placed = within_then refs_of scope old new new m m after placed
        (within_store refs_of value_of own scope new m after (refs_of m value) (refs_of m value) [] refused_intact p (λ q. omega arith))

    -- giving back the value puts what is owned in place of what was owned and the value's blocks
    pub refused_changes : Changes m after (owned (refs_of m) old ++ refs_of m value) (owned (refs_of after) new)
    refused_changes = changes_beside m after (refs_of m value) [] (owned (refs_of m) old ++ refs_of m value) (owned (refs_of after) new) p
        (λ q. omega (arith, intact_refused.owned q, times-append q (owned (refs_of m) old) (refs_of m value))) (λ q. times q (owned (refs_of m) old))
        (λ q. omega (arith, times-append q (owned (refs_of m) old) (refs_of m value)))
        (λ q. omega (arith, same q, ap (times q) (owned_out refs_of value_of own new m after (refs_of m value) (refs_of m value) [] refused_intact p (λ q. omega arith))))

  -- ---- lifting and lowering

  -- what stands at a key that is there at the moment
  pub look_now : (bases : Bases V) (db moment : ℕ) (m : Blocks) (key : List ℕ) (e : Entry) → look (means value_of db bases m) key ≡ Some e → in_time moment e.deadline ≡ true
      → look (model.live (means value_of db bases m) moment) key ≡ Some e
  look_now bases db moment m key e is late = look_in_time (means value_of db bases m) moment key e is late

  -- nothing stands at the moment at a key whose deadline is past
  pub look_past : (bases : Bases V) (db moment : ℕ) (m : Blocks) → IsArranged IsSound bases m → (key : List ℕ) (at : ℕ) → Stands m (table_at bases db) at key
      → in_time moment (get (moments m (deadlines_at bases db)) key) ≡ false → look (model.live (means value_of db bases m) moment) key ≡ None
  look_past bases db moment m a key at stands late = look_gone (means value_of db bases m) moment key _ (look_stands bases db m a key at stands.element stands.found stands.bytes _ refl) late

  -- where nothing stands at a key nothing stands there at the moment
  pub look_nothing : (bases : Bases V) (db moment : ℕ) (m : Blocks) (key : List ℕ) → look (means value_of db bases m) key ≡ None → look (model.live (means value_of db bases m) moment) key ≡ None
  look_nothing bases db moment m key is = look_absent (means value_of db bases m) moment key is

  module _ (old new : Bases V) (db : ℕ) (m : Blocks) (c : ChangesTable old new db) (at : ℕ) where
    module _ (was zero : V) (nothing : IsBlank refs_of IsSound zero) (empty : V) (is_empty : zero ≡ empty) (s : Swaps (table_at old db) (table_at new db) at was zero)
        (keyed : Keyed m (table_at new db)) (intact : IsIntact refs_of IsSound old m []) (key : List ℕ) (moment : ℕ) (there : StandsAt old m db key moment at) where
      -- where a value is taken out of its place, the databases are intact with it out of them
      lifted_intact : IsIntact refs_of IsSound new m (refs_of m was)
      lifted_intact = over_intact old new db m c at was zero s keyed intact.arranged (nothing.sound old.limits old.seed m) [] (refs_of m was) intact (λ r. omega (arith, ap (times r) (nothing.none m)))

      -- the element whose value is taken out has the key that stands at the item number
      lifted_key : m s.key ≡ Some key
      lifted_key = swapped_key old new db m c at was zero s keyed intact.arranged key there.stands

      -- the value that was taken out is what stood at the key at the moment, and its place is vacant
      pub lifts : (lifted : Lifted V) → lifted ≡ record { db = db; item = at; value = was } → Lifts refs_of value_of empty old new m db key moment lifted
      lifts lifted is = subst (Lifts refs_of value_of empty old new m db key moment) (sym is) (record {
        same_db = refl;
        deadline = get (moments m (deadlines_at old db)) key;
        stands = look_now old db moment m key _ (look_stands old db m intact.arranged key at (record { key = s.key; hash = s.hash; value = was }) s.found lifted_key _ refl) there.in_time;
        owned = over_owned old new db m c at was zero s keyed intact.arranged [] intact;
        had = record { at = at; element = record { key = s.key; hash = s.hash; value = was }; found = s.found; bytes = lifted_key; is = refl };
        vacant = ap value_at s.updates.changed ∙ ap Some is_empty;
        place = record { element = record { key = s.key; hash = s.hash; value = zero }; found = s.updates.changed; bytes = lifted_key; lasts = ap (λ (d : Timed). get (moments m d) key) c.deadlines };
        back = λ entry. ap (λ w. put w key entry) (swapped_means refs_of value_of own old new db m intact.arranged at c keyed was zero s key lifted_key _ refl)
            ∙ put_twice (means value_of db old m) key _ entry;
      })

      -- where a value is taken out, sound databases are sound beside it and what was out already
      pub lifted_sound : (out : List BlockRef) → SoundBeside refs_of IsSound old m out → SoundBeside refs_of IsSound new m (refs_of m was ++ out)
      lifted_sound out sound = record {
        owns = λ r. omega (arith, sound.owns r, owned_swaps (refs_of m) old new db c.base r at was zero s, times-append r (refs_of m was) out, ap (times r) (nothing.none m));
        arranged = lifted_intact.arranged;
      }

    module _ (was value : V) (s : Swaps (table_at old db) (table_at new db) at was value) (keyed : Keyed m (table_at new db)) (takes : IsIntactWith refs_of IsSound old m value) (empty : V)
        (nothing : IsBlank refs_of IsSound empty) (v : IsVacant empty old db at) where
      intact_lowered : IsIntact refs_of IsSound old m (refs_of m value)
      intact_lowered = with_intact takes

      -- what stands in a vacant place owns no block
      vacated : refs_of m was ≡ []
      vacated =
          let both : Some was ≡ Some empty = sym (ap value_at s.found) ∙ v in
          let same : was ≡ empty = cc in
          ap (refs_of m) same ∙ nothing.none m

      -- where a value is put in the place of a key, it is put at the key of the world with the key's deadline
      pub lowered_means : (key : List ℕ) (deadline : Option ℕ) → IsPlace old m db at key deadline
          → means value_of db new m ≡ put (means value_of db old m) key (record { value = value_of m value; deadline = deadline })
      lowered_means key deadline place =
          swapped_means refs_of value_of own old new db m intact_lowered.arranged at c keyed was value s key
          (swapped_key old new db m c at was value s keyed intact_lowered.arranged key (record { element = place.element; found = place.found; bytes = place.bytes })) deadline
          place.lasts

      -- where a value that was out is put in a vacant place, the databases are sound beside the rest
      pub lowered_sound : (all out : List BlockRef) → SoundBeside refs_of IsSound old m all → AreParts all (refs_of m value) out → SoundBeside refs_of IsSound new m out
      lowered_sound all out sound parts = record {
        owns = λ r. omega (arith, sound.owns r, parts r, owned_swaps (refs_of m) old new db c.base r at was value s, ap (times r) vacated);
        arranged = (over_intact old new db m c at was value s keyed intact_lowered.arranged takes.sound (refs_of m value) [] intact_lowered (λ r. omega (arith, ap (times r) vacated))).arranged;
      }

  -- ---- looking

  -- the value at the item number where a key stands at the moment is what is found at the key
  pub found_held : (bases : Bases V) (db moment : ℕ) (m : Blocks) (key : List ℕ) (at : ℕ) (value : V) → IsIntact refs_of IsSound bases m [] → StandsAt bases m db key moment at
      → value_at (item (table_at bases db) at) ≡ Some value → Found refs_of value_of bases m db key moment value
  found_held bases db moment m key at value intact there held =
      let stands = there.stands in
      let same : stands.element.value ≡ value = (let both : Some stands.element.value ≡ Some value = sym (ap value_at stands.found) ∙ held in cc) in
      record {
        deadline = get (moments m (deadlines_at bases db)) key;
        stands = look_now bases db moment m key _
            (look_stands bases db m intact.arranged key at stands.element stands.found stands.bytes _ refl
            ∙ ap (λ v. Some (record { value = value_of m v; deadline = get (moments m (deadlines_at bases db)) key })) same) there.in_time;
        owned = λ r. omega (arith, intact.owned r, item_owned (refs_of m) bases db at stands.element r stands.found, ap (λ v. times r (refs_of m v)) same);
        has = record { at = at; element = stands.element; found = stands.found; bytes = stands.bytes; is = same };
      }

  -- settings that stay the same in each of two steps stay the same in both
  pub settings_then : (a b c : Bases V) → SameSettings a b → SameSettings b c → SameSettings a c
  settings_then a b c p q = record { limits = q.limits ∙ p.limits; seed = q.seed ∙ p.seed; turn = q.turn ∙ p.turn }

  -- ---- databases without a key

  module _ (bases : Bases V) (seed : ℕ) (none : bases.bases ≡ replicate 16 (no_base seed)) where
    -- a fact of databases without a key holds of each of the new ones
    each_new : (P : Base V → Type 0) → ((number : ℕ) → P (no_base number)) → (number : ℕ) → P (base_at bases number)
    each_new P p number = subst (λ list. P (get_or list number (no_base 0))) (sym none) (in_list 16 number)
      where
        in_list : (n number : ℕ) → P (get_or (replicate {A = Base V} n (no_base seed)) number (no_base 0))
        in_list zero number = p 0
        in_list (suc n) zero = p seed
        in_list (suc n) (suc number) = in_list n number

    -- databases without a key mean, with database 0 selected, the world of a server that was just begun
    pub new_means_world : (m : Blocks) → means value_of 0 bases m ≡ model.new_world
    new_means_world m = λ i. record { bases = λ number. each_new (λ b. base_means value_of m b ≡ model.no_keys) (no_base_means value_of m) number i; selected = 0 }

    -- their tables come from none
    pub new_grown : (m : Blocks) → bases.seed ≡ seed → AreGrown bases m
    new_grown m same db = subst (λ s. BaseGrows s (no_base s) (base_at bases db) m m) (sym same)
        (each_new (λ b. BaseGrows seed (no_base seed) b m m) (λ number. record { keys = no_step; deadlines = no_step; cursor = refl }) db)

    -- both tables of each of the 16 databases without a key have the seed of all
    new_seeds : (number : ℕ) → number < 16 → HasSeed (base_at bases number) seed
    new_seeds number within = subst (λ list. HasSeed (get_or list number (no_base 0)) seed) (sym none) (in_list 16 number within)
      where
        in_list : (n number : ℕ) → number < n → HasSeed (get_or (replicate {A = Base V} n (no_base seed)) number (no_base 0)) seed
        in_list zero number within = absurd (omega (arith, within))
        in_list (suc n) zero within = record { keys = refl; deadlines = refl }
        in_list (suc n) (suc number) within = in_list n number (omega (arith, within))

    -- databases without a key are sound over a store without a block, where limits, seed and turn are in order
    pub new_sound : (m : Blocks) → m ≡ no_blocks → AreInRange bases.limits → bases.seed ≡ seed → bases.turn ≡ 0 → SoundBeside refs_of IsSound bases m []
    new_sound m dead limits same first = record {
      owns = λ r.
          (let nothing : times r (owned (refs_of m) bases) ≡ 0 = ap (λ list. times r (flat_map (λ (b : Base V). refs (refs_of m) b.keys) list)) none in let dead_r : live m r ≡ 0 =
          ap (λ (b : Blocks). live b r) dead in omega arith);
      arranged = record {
        keyed = each_new (λ b. Keyed m b.keys) (λ number. keyed_none m number);
        timed = each_new (λ b. IsTimed m b.keys b.deadlines) (λ number. timed_none m number number);
        values = each_new (λ b. (at : ℕ) (e : Element V) → item b.keys at ≡ Some e → IsSound bases.limits bases.seed m e.value) (λ number at e found. absurd cc);
        sixteen = ap length none;
        limits = limits;
        seeds = λ number within. subst (HasSeed (base_at bases number)) (sym same) (new_seeds number within);
        turn = omega (arith, first);
      };
    }
