-- A key moves with its value and its deadline.
use Rattle.std.proofs.Common.{◌≡◌, inl, inr, ℕ, ◌+◌, ◌<◌, ◌^◌, List, [], ◌++◌, Option, Some, None, refl, sym, ap, ◌∙◌, subst, arith}
use Rattle.object_codec.specs.declared.limits.Limits.{Limits}
use Rattle.std.proofs.lemmas.Bool.{cases_eq, eq-eqb, ne_eqb, cond-true, cond-false}
use Rattle.std.specs.FinMap.{get, insert}
use Rattle.std.specs.FinMap as map
use Rattle.blocks.specs.declared.BlockRef.{BlockRef}
use Rattle.blocks.specs.Blocks.{Blocks, times, live, Changes}
use Rattle.blocks.proofs.Times.{times-append}
use Rattle.blocks.proofs.Refs.{ref_eq_refl}
use Rattle.blocks.proofs.Change.{one, changes_same, changes_then, changes_beside}
use Rattle.rehash_dict.proofs.MapOf.{map_of_has}
use Rattle.plain_world.specs.Worlds.{Value, Entry, World, Database, look, put, put_in, remove, selecting, deadline_of}
use Rattle.expiry.specs.Timed.{Timed, moments}
use Rattle.held.specs.declared.databases.Base.{Base}
use Rattle.held.specs.Table.{Table, Element, item, Stands, Keyed, Swaps}
use Rattle.held.specs.Databases.{Bases, table_at, deadlines_at, means, owned, SameSettings, ChangesTable}
use Rattle.stored.specs.Owning.{ReadsOwn, IsBlank}
use Rattle.held.specs.Sound.{IsArranged, IsIntact, IsIntactWith, SoundBeside}
use Rattle.held.specs.Worlds.{without}
use Rattle.held.specs.Calls.{HasOnly, IsDeadline}
use Rattle.held.proofs.Maps.{same_entry, put_removed, moved_base}
use Rattle.held.proofs.Timing.{some_same, some_none}
use Rattle.held.proofs.Bases.{owned_swaps, swapped_means, sound_joined}
use Rattle.rehash_dict.specs.Keyed.{key_tables}
use Rattle.held.specs.Scopes.{one_key, two_keys, no_key, Within}
use Rattle.plain_world.proofs.Maps.{get_removed}
use Rattle.plain_world.proofs.Lives.{put_twice}
use Rattle.held.proofs.Tables.{some_bytes}
use Rattle.held.specs.Written.{KeepBytes, Carried, Written}
use Rattle.held.proofs.Written.{written_named, two_settled}
use Rattle.held.proofs.Within.{within_then, within_wider, within_swaps}
use Rattle.held.proofs.Calls.{look_stands, deadline_seen, swapped_key, over_intact}

-- ---- worlds

-- what stands at a key is put there
pub put_same : (w : World) (key : List ℕ) (e : Entry) → look w key ≡ Some e → put w key e ≡ w
put_same w key e is = λ i. record { bases = λ number. each number i; selected = w.selected }
  where
    each : (number : ℕ) → (put w key e).bases number ≡ w.bases number
    each number = elim (cases_eq number w.selected) [
      | inl here ↦ cond-true _ _ _ (eq-eqb number w.selected here) ∙ same_entry (w.bases w.selected) key e is ∙ ap w.bases (sym here)
      | inr other ↦ cond-false _ _ _ (ne_eqb number w.selected other)
    ]

-- Something else is put at a key, its own entry is put at another key, and the first key leaves.
pub moved_world : (w : World) (key to : List ℕ) (number : ℕ) (a e : Entry) → ((w.selected ≡ number) × (key ≡ to) → ⊥)
    → remove (put_in (put w key a) number to e) key ≡ put_in (remove w key) number to e
moved_world w key to number a e apart = λ i. record { bases = λ n. each n i; selected = w.selected }
  where
    chosen : Database
    chosen = w.bases w.selected

    -- in the database of the key, and then in the other
    here_both : w.selected ≡ number → (remove (put_in (put w key a) number to e) key).bases w.selected ≡ (put_in (remove w key) number to e).bases w.selected
    here_both same =
        cond-true _ _ _ (eq-eqb w.selected w.selected refl)
        ∙ ap (λ b. map.remove b key) (cond-true _ _ _ (eq-eqb w.selected number same) ∙ ap (λ b. insert b to e) (cond-true _ _ _ (eq-eqb number w.selected (sym same))))
        ∙ moved_base chosen key to a e (λ k. apart (same, k))
        ∙ sym (cond-true _ _ _ (eq-eqb w.selected number same) ∙ ap (λ b. insert b to e) (cond-true _ _ _ (eq-eqb number w.selected (sym same))))

    here_one : (w.selected ≡ number → ⊥) → (remove (put_in (put w key a) number to e) key).bases w.selected ≡ (put_in (remove w key) number to e).bases w.selected
    here_one other =
        cond-true _ _ _ (eq-eqb w.selected w.selected refl)
        ∙ ap (λ b. map.remove b key) (cond-false _ _ _ (ne_eqb w.selected number other) ∙ cond-true _ _ _ (eq-eqb w.selected w.selected refl))
        ∙ put_removed chosen key a
        ∙ sym (cond-false _ _ _ (ne_eqb w.selected number other) ∙ cond-true _ _ _ (eq-eqb w.selected w.selected refl))

    there : (n : ℕ) → (n ≡ w.selected → ⊥) → (remove (put_in (put w key a) number to e) key).bases n ≡ (put_in (remove w key) number to e).bases n
    there n other = cond-false _ _ _ (ne_eqb n w.selected other) ∙ elim (cases_eq n number) [
      | inl same ↦
          (let apart_too : number ≡ w.selected → ⊥ = (λ s. other (same ∙ s)) in
          cond-true _ _ _ (eq-eqb n number same) ∙ ap (λ b. insert b to e) (cond-false _ _ _ (ne_eqb number w.selected apart_too))
          ∙ sym (cond-true _ _ _ (eq-eqb n number same) ∙ ap (λ b. insert b to e) (cond-false _ _ _ (ne_eqb number w.selected apart_too))))
      | inr apart_too ↦
          cond-false _ _ _ (ne_eqb n number apart_too) ∙ cond-false _ _ _ (ne_eqb n w.selected other)
          ∙ sym (cond-false _ _ _ (ne_eqb n number apart_too) ∙ cond-false _ _ _ (ne_eqb n w.selected other))
    ]

    each : (n : ℕ) → (remove (put_in (put w key a) number to e) key).bases n ≡ (put_in (remove w key) number to e).bases n
    each n = elim (cases_eq n w.selected) [
      | inl here ↦
          subst (λ k. (remove (put_in (put w key a) number to e) key).bases k ≡ (put_in (remove w key) number to e).bases k) (sym here)
          (elim (cases_eq w.selected number) [ inl same ↦ here_both same | inr other ↦ here_one other ])
      | inr other ↦ there n other
    ]

module _ {V : Type 0} {IsSound : Limits → ℕ → Blocks → V → Type 0} (refs_of : Blocks → V → List BlockRef) (value_of : Blocks → V → Value) (own : ReadsOwn refs_of value_of IsSound) where
  -- each deadline that a key has is at most the greatest
  pub deadline_late : (bases : Bases V) (db : ℕ) (m : Blocks) → IsArranged IsSound bases m → (key : List ℕ) (deadline : Option ℕ) → get (moments m (deadlines_at bases db)) key ≡ deadline
      → IsDeadline deadline
  deadline_late bases db m a key None is = tt
  deadline_late bases db m a key (Some deadline) is =
      (let had = map_of_has m (λ v. v) (deadlines_at bases db).table key deadline (a.timed db).keyed is in
      subst (λ d. d < 2 ^ 63) had.1 ((a.timed db).latest had.0.at had.0.element had.0.found))

  -- ---- the value is taken out of its place

  module _ (old mid : Bases V) (db : ℕ) (m : Blocks) (intact : IsIntact refs_of IsSound old m []) (key : List ℕ) (at : ℕ) (stands : Stands m (table_at old db) at key) (deadline : Option ℕ)
      (lasts : get (moments m (deadlines_at old db)) key ≡ deadline)
      (c : ChangesTable old mid db) (was zero : V) (nothing : IsBlank refs_of IsSound zero) (s : Swaps (table_at old db) (table_at mid db) at was zero) (keyed : Keyed m (table_at mid db)) where
    -- the element whose value is taken out has the first key
    out_key : m s.key ≡ Some key
    out_key = swapped_key refs_of value_of own old mid db m c at was zero s keyed intact.arranged key stands

    -- where the value is taken out, the databases are intact with it out of them
    pub out_intact : IsIntact refs_of IsSound mid m (refs_of m was)
    out_intact = over_intact refs_of value_of own old mid db m c at was zero s keyed intact.arranged (nothing.sound old.limits old.seed m) [] (refs_of m was) intact
        (λ r. omega (arith, ap (times r) (nothing.none m)))

    -- and the value is sound, as it was
    pub out_with : IsIntactWith refs_of IsSound mid m was
    out_with = record {
      owned = out_intact.owned;
      arranged = out_intact.arranged;
      sound = subst (λ limits. IsSound limits mid.seed m was) (sym c.base.settings.limits)
          (subst (λ seed. IsSound old.limits seed m was) (sym c.base.settings.seed) (intact.arranged.values db at (record { key = s.key; hash = s.hash; value = was }) s.found));
    }

    -- where the value is taken out, what stands in its place is put at the key with the key's deadline
    out_means : means value_of db mid m ≡ put (means value_of db old m) key (record { value = value_of m zero; deadline = deadline })
    out_means = swapped_means refs_of value_of own old mid db m intact.arranged at c keyed was zero s key out_key deadline lasts

    -- at the first key stood the value that is taken out, with the key's deadline
    pub out_look : look (means value_of db old m) key ≡ Some (record { value = value_of m was; deadline = deadline })
    out_look = look_stands refs_of value_of own old db m intact.arranged key at (record { key = s.key; hash = s.hash; value = was }) s.found out_key deadline lasts

    -- the databases owned the blocks of the value that is taken out besides what they own
    out_owned : (r : BlockRef) → times r (owned (refs_of m) old) ≡ times r (owned (refs_of m) mid) + times r (refs_of m was)
    out_owned r = omega (arith, owned_swaps (refs_of m) old mid db c.base r at was zero s, ap (times r) (nothing.none m))

    -- where the value is taken out, sound databases are sound beside it and what was out already
    out_sound : (out : List BlockRef) → SoundBeside refs_of IsSound old m out → SoundBeside refs_of IsSound mid m (refs_of m was ++ out)
    out_sound out sound = record { owns = λ r. omega (arith, sound.owns r, out_owned r, times-append r (refs_of m was) out); arranged = out_intact.arranged }

    -- that the value is taken out is within the scope of both keys
    pub out_within : key_tables m (table_at mid db) ≡ key_tables m (table_at old db) → (to_db : ℕ) (to : List ℕ) → Within refs_of (two_keys db key to_db to) old mid m m
    out_within tables to_db to = within_swaps refs_of (two_keys db key to_db to) old mid m db (inl refl) c at was zero s tables (inl (refl, some_bytes m s.key key out_key))

    -- the value is put at the other key, or was not for want of memory
    pub placed_within : key_tables m (table_at mid db) ≡ key_tables m (table_at old db) → (to_db : ℕ) (to : List ℕ) (new : Bases V) (after : Blocks)
        → Within refs_of (one_key to_db to) mid new m after → Within refs_of (two_keys db key to_db to) old new m after
    placed_within tables to_db to new after placed =
        within_then refs_of (two_keys db key to_db to) old mid new m m after (out_within tables to_db to)
        (within_wider refs_of (one_key to_db to) (two_keys db key to_db to) (λ number there. inr there) (λ number other named. inr named) (λ number no. absurd no) mid new m after placed)

    -- and the first one leaves
    pub left_within : (to_db : ℕ) (to : List ℕ) (new last : Bases V) (after later : Blocks) → Within refs_of (no_key db) new last after later
        → Within refs_of (two_keys db key to_db to) new last after later
    left_within to_db to new last after later left =
        within_wider refs_of (no_key db) (two_keys db key to_db to) (λ number here. inl here) (λ number other none. absurd none.1) (λ number no. absurd no) new last after later left

    -- Nothing stands at the first key, and whatever stands at the other one is the value that stood there, with its blocks.
    pub moved_writes : (to_db : ℕ) (to : List ℕ) (new last : Bases V) (after later : Blocks) → HasOnly new after to_db to was → KeepBytes m after (refs_of m was)
        → Within refs_of (no_key db) new last after later → means value_of db last later ≡ without (means value_of db new after) key
        → Within refs_of (two_keys db key to_db to) old last m later → IsArranged IsSound last later → Written refs_of (Carried refs_of old m later db key) old last m later
    moved_writes to_db to new last after later only placed left gone within arranged =
        written_named refs_of (Carried refs_of old m later db key) (two_keys db key to_db to) (two_settled db key to_db to) old last m later within arranged
        (λ number i e other found bytes named. elim named [
          | inl here ↦ some_none _ _
              (look_stands refs_of value_of own last db later arranged key i e (subst (λ n. item (table_at last n) i ≡ Some e) here.0 found) (bytes ∙ ap Some here.1) _ refl)
              (ap (λ w. look w key) gone ∙ ap (λ (b : Database). get b key) (cond-true _ _ _ (eq-eqb db db refl)) ∙ get_removed ((means value_of db new after).bases db) key)
          | inr there ↦ carried i e (subst (λ n. item (table_at last n) i ≡ Some e) there.0 found) (bytes ∙ ap Some there.1)
        ])
      where
        -- the element of the other key has the value that was moved
        carried : (i : ℕ) (e : Element V) → item (table_at last to_db) i ≡ Some e → later e.key ≡ Some to → Carried refs_of old m later db key e.value
        carried i e found bytes =
            let stayed = left.stayed to_db i e found (λ none. none.1) in
            let itself : one e.key e.key ≡ 1 = cond-true _ _ _ (ref_eq_refl e.key) in
            let same = stayed.bytes e.key (omega (arith, itself)) in
            let is : e.value ≡ was = only i e stayed.stood (sym same ∙ bytes) in
            let blocks : KeepBytes m after (refs_of m e.value) = subst (λ v. KeepBytes m after (refs_of m v)) (sym is) placed in
            let refs : refs_of after e.value ≡ refs_of m e.value = own.refs m after e.value blocks in
            record {
              had = record { at = at; element = record { key = s.key; hash = s.hash; value = was }; found = s.found; bytes = out_key; is = sym is };
              kept = λ r owns. stayed.bytes r (omega (arith, owns, ap (times r) refs)) ∙ blocks r owns;
            }

    -- ---- it stands at the other key, and the first one leaves

    module _ (to_db : ℕ) (to : List ℕ) (new : Bases V) (after : Blocks) (p : Changes m after (owned (refs_of m) mid ++ refs_of m was) (owned (refs_of after) new))
        (a : IsArranged IsSound new after) where
      -- with the value at the other key sound databases are sound beside what was out
      pub moved_sound : (out : List BlockRef) → SoundBeside refs_of IsSound old m out → SoundBeside refs_of IsSound new after out
      moved_sound out sound = sound_joined refs_of value_of own mid new m after (refs_of m was) p a (refs_of m was ++ out) out (out_sound out sound) (λ r. times-append r (refs_of m was) out)

      -- with the value at the other key what is owned stands in place of what was owned
      pub moved_changes : Changes m after (owned (refs_of m) old) (owned (refs_of after) new)
      moved_changes =
          changes_then m m after (owned (refs_of m) old) (owned (refs_of m) mid ++ refs_of m was) (owned (refs_of after) new)
          (changes_beside m m [] [] (owned (refs_of m) old) (owned (refs_of m) mid ++ refs_of m was) (changes_same m [] (λ q. omega arith)) (λ r. omega (arith, intact.owned r))
          (λ r. times r (owned (refs_of m) old)) (λ r. omega arith)
          (λ r. omega (arith, out_owned r, times-append r (owned (refs_of m) mid) (refs_of m was)))) p

      -- with the value at the other key and the first key gone, the key has moved in the world with its entry
      pub moved_means : means value_of to_db new after ≡ put (means value_of to_db mid m) to (record { value = value_of m was; deadline = deadline }) → (last : Bases V) (later : Blocks)
          → means value_of db last later ≡ without (means value_of db new after) key
          → ((db ≡ to_db) × (key ≡ to) → ⊥) → (entry : Entry) → look (means value_of db old m) key ≡ Some entry
          → means value_of db last later ≡ put_in (remove (means value_of db old m) key) to_db to entry
      moved_means put_there last later gone apart entry is =
          let same : record { value = value_of m was; deadline = deadline } ≡ entry = some_same (look (means value_of db old m) key) _ _ out_look is in
          gone ∙ ap (λ w. without (selecting w db) key) put_there
          ∙ ap (λ w. without (put_in w to_db to (record { value = value_of m was; deadline = deadline })) key) out_means
          ∙ moved_world (means value_of db old m) key to to_db _ _ apart
          ∙ ap (λ e. put_in (remove (means value_of db old m) key) to_db to e) same

    -- ---- memory is refused, and it is put back

    module _ (to_db : ℕ) (new : Bases V) (after : Blocks) (same : after ≡ m) (keys : (number : ℕ) → table_at new number ≡ table_at mid number)
        (owns : (r : BlockRef) → times r (owned (refs_of after) new) ≡ times r (owned (refs_of m) mid)) (a : IsArranged IsSound new after)
        (kept : means value_of to_db new after ≡ means value_of to_db mid m) where
      owns_m : (r : BlockRef) → times r (owned (refs_of m) new) ≡ times r (owned (refs_of m) mid)
      owns_m r = ap (λ b. times r (owned (refs_of b) new)) (sym same) ∙ owns r

      -- where memory is refused, the databases mean what they meant when the value was taken out
      back_world : means value_of db new after ≡ means value_of db mid m
      back_world = ap (λ w. selecting w db) kept

      -- where memory is refused, the first key has the deadline that it had
      back_lasts : get (moments after (deadlines_at new db)) key ≡ deadline
      back_lasts =
          deadline_seen refs_of value_of own new db after a key ∙ ap (λ w. deadline_of (look w key)) back_world
          ∙ sym (deadline_seen refs_of value_of own mid db m out_intact.arranged key) ∙ ap (λ (d : Timed). get (moments m d) key) c.deadlines ∙ lasts

      module _ (last : Bases V) (value : V) (returned : value ≡ was) (settings : SameSettings mid new) (d : ChangesTable new last db) (vacant : V)
          (b : Swaps (table_at new db) (table_at last db) at vacant value) (last_keyed : Keyed after (table_at last db)) where
        -- where memory is refused, the first key's element stands as it stood when the value was taken out
        back_found : item (table_at new db) at ≡ Some (record { key = s.key; hash = s.hash; value = zero })
        back_found = ap (λ (t : Table V). item t at) (keys db) ∙ s.updates.changed

        -- where memory is refused, the first key stands at its item number
        back_stands : Stands after (table_at new db) at key
        back_stands = record { element = record { key = s.key; hash = s.hash; value = zero }; found = back_found; bytes = ap (λ x. x s.key) same ∙ out_key }

        -- what stands in the place that the value goes back to owns no block
        back_zero : (x : Blocks) → refs_of x vacant ≡ []
        back_zero x =
            let one : record { key = b.key; hash = b.hash; value = vacant } ≡ record { key = s.key; hash = s.hash; value = zero } = some_same (item (table_at new db) at) _ _ b.found back_found in
            ap (λ (e : Element V). refs_of x e.value) one ∙ nothing.none x

        -- that the value is put back is within the scope of both keys
        pub back_within : key_tables after (table_at last db) ≡ key_tables after (table_at new db) → (to : List ℕ) → Within refs_of (two_keys db key to_db to) new last after after
        back_within tables to =
            within_swaps refs_of (two_keys db key to_db to) new last after db (inl refl) d at vacant value b tables
            (inl (refl, some_bytes after b.key key (swapped_key refs_of value_of own new last db after d at vacant value b last_keyed a key back_stands)))

        -- what stands in the place that the value goes back to stood there when it was taken out
        back_same : ◌≡◌ {A = Element V} (record { key = b.key; hash = b.hash; value = vacant }) (record { key = s.key; hash = s.hash; value = zero })
        back_same = some_same (item (table_at new db) at) _ _ b.found back_found

        -- where the value is put back, each element stands where it stood at first
        pub back_items : (number i : ℕ) → item (table_at last number) i ≡ item (table_at old number) i
        back_items number i = elim (cases_eq number db) [
          | inl here ↦ subst (λ n. item (table_at last n) i ≡ item (table_at old n) i) (sym here) (elim (cases_eq i at) [
            | inl there ↦ subst (λ k. item (table_at last db) k ≡ item (table_at old db) k) (sym there)
                (b.updates.changed ∙ (λ j. Some (record { key = (back_same j).key; hash = (back_same j).hash; value = returned j })) ∙ sym s.found)
            | inr apart ↦ b.updates.others i apart ∙ ap (λ (t : Table V). item t i) (keys db) ∙ s.updates.others i apart
          ])
          | inr apart ↦
              ap (λ (x : Base V). item x.keys i) (d.base.others number apart) ∙ ap (λ (t : Table V). item t i) (keys number)
              ∙ ap (λ (x : Base V). item x.keys i) (c.base.others number apart)
        ]

        -- the value that is put back means what it meant
        back_value : value_of after value ≡ value_of m was
        back_value = λ i. value_of (same i) (returned i)

        -- where the value is put back, the databases mean the world that they meant at first
        pub refused_world : means value_of db last after ≡ means value_of db old m
        refused_world =
            swapped_means refs_of value_of own new last db after a at d last_keyed vacant value b key
            (swapped_key refs_of value_of own new last db after d at vacant value b last_keyed a key back_stands) deadline back_lasts
            ∙ (λ i. put (back_world i) key (record { value = back_value i; deadline = deadline }))
            ∙ ap (λ w. put w key (record { value = value_of m was; deadline = deadline })) out_means
            ∙ put_twice (means value_of db old m) key _ _
            ∙ put_same (means value_of db old m) key _ out_look

        -- where the value is put back, the databases own what they owned at first
        back_owned : (r : BlockRef) → times r (owned (refs_of m) last) ≡ times r (owned (refs_of m) old)
        back_owned r =
            (let returned_refs = ap (λ v. times r (refs_of m v)) returned in
            omega (arith, owned_swaps (refs_of m) new last db d.base r at vacant value b, ap (times r) (back_zero m), returned_refs, owns_m r, out_owned r))

        -- until the value is put back the databases are intact with it out of them
        new_intact : IsIntact refs_of IsSound new after (refs_of after value)
        new_intact = record {
          owned = λ r.
              (let returned_refs : times r (refs_of after value) ≡ times r (refs_of m was) = (λ i. times r (refs_of (same i) (returned i))) in let alive = ap (λ x. live x r) same in
              omega (arith, out_intact.owned r, owns r, returned_refs, alive));
          arranged = a;
        }

        -- the value that is put back is sound, as it was
        new_sound : IsSound new.limits new.seed after value
        new_sound = subst (λ v. IsSound new.limits new.seed after v) (sym returned) (subst (λ x. IsSound new.limits new.seed x was) (sym same)
            (subst (λ limits. IsSound limits new.seed m was) (sym (settings.limits ∙ c.base.settings.limits))
            (subst (λ seed. IsSound old.limits seed m was) (sym (settings.seed ∙ c.base.settings.seed))
            (intact.arranged.values db at (record { key = s.key; hash = s.hash; value = was }) s.found))))

        -- where the value is put back, the databases are arranged
        last_arranged : IsArranged IsSound last after
        last_arranged =
            (over_intact refs_of value_of own new last db after d at vacant value b last_keyed a new_sound (refs_of after value) [] new_intact
            (λ r. omega (arith, ap (times r) (back_zero after)))).arranged

        -- where the value is put back, sound databases are sound beside what was out
        pub refused_sound : (out : List BlockRef) → SoundBeside refs_of IsSound old m out → SoundBeside refs_of IsSound last after out
        refused_sound out sound = record {
          owns = λ r. (let alive = ap (λ x. live x r) same in omega (arith, sound.owns r, back_owned r, alive, ap (λ x. times r (owned (refs_of x) last)) same));
          arranged =
              last_arranged;
        }

        -- where memory was refused the databases own what they owned
        pub refused_owns : (r : BlockRef) → times r (owned (refs_of after) last) ≡ times r (owned (refs_of m) old)
        refused_owns r = subst (λ x. times r (owned (refs_of x) last) ≡ times r (owned (refs_of m) old)) (sym same) (omega (arith, back_owned r))

        -- where the value is put back, what is owned stands in place of what was owned
        pub refused_same : Changes m after (owned (refs_of m) old) (owned (refs_of after) last)
        refused_same = subst (λ x. Changes m x (owned (refs_of m) old) (owned (refs_of x) last)) (sym same)
            (changes_beside m m [] [] (owned (refs_of m) old) (owned (refs_of m) last) (changes_same m [] (λ q. omega arith)) (λ r. omega (arith, intact.owned r))
            (λ r. times r (owned (refs_of m) old)) (λ r. omega arith) (λ r. omega (arith, back_owned r)))
