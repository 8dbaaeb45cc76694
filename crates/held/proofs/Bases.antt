-- What becomes of databases where the store changes outside them, and where one of them changes.
use Rattle.std.proofs.Common.{◌≡◌, inl, inr, ℕ, zero, suc, ◌+◌, ◌≤◌, ◌<◌, List, [], ◌∷◌, ◌++◌, get_or, flat_map, Option, Some, None, is_some, refl, sym, ap, ◌∙◌, subst, arith}
use Rattle.object_codec.specs.declared.limits.Limits.{Limits}
use Rattle.std.proofs.lemmas.Bool.{cases_eq, eq-eqb, ne_eqb, cond-true, cond-false}
use Rattle.blocks.specs.declared.BlockRef.{BlockRef}
use Rattle.std.specs.FinMap.{get, insert, remove}
use Rattle.blocks.specs.Blocks.{Blocks, ref_eq, times, Changes}
use Rattle.blocks.proofs.Refs.{ref_eq_refl}
use Rattle.blocks.proofs.Times.{times-append, times_changed}
use Rattle.blocks.proofs.Change.{one_if, live_once, counts_changed, owned_others}
use Rattle.object_codec.specs.Limits.{AreInRange}
use Rattle.plain_world.specs.Worlds.{Value, Database, with_base, put}
use Rattle.rehash_dict.specs.Keyed.{key_of}
use Rattle.rehash_dict.specs.Table.{at_item}
use Rattle.rehash_dict.proofs.Keys.{keyed_frame}
use Rattle.rehash_dict.proofs.MapOf.{map_of_frame, map_of_adds, map_of_swaps, refs_changed}
use Rattle.expiry.specs.Timed.{Timed, moments}
use Rattle.held.specs.declared.databases.Base.{Base}
use Rattle.held.specs.Table.{Table, Element, item, Lacks, Keyed, Adds, Swaps, Removes, own_of, refs, map_of}
use Rattle.held.specs.Databases.{Bases, no_base, base_at, table_at, deadlines_at, owned, base_means, with_deadlines, with_deadline, means, ChangesBase, ChangesTable, ChangesDeadlines}
use Rattle.stored.specs.Owning.{ReadsOwn}
use Rattle.held.specs.Sound.{IsTimed, HasSeed, IsArranged, IsIntact, SoundBeside}
use Rattle.held.specs.Calls.{AreParts}
use Rattle.held.proofs.Tables.{some_bytes, named_in}
use Rattle.held.proofs.Maps.{with_put, with_removed, same_deadline, same_value}
use Rattle.held.proofs.Timing.{timed_swaps, timed_removes, timed_frame}

-- the database that changed is in order
pub record InOrder {V : Type 0} (IsSound : Limits → ℕ → Blocks → V → Type 0) (m : Blocks) (old new : Bases V) (db : ℕ) : Type 0 where
  pub keyed : Keyed m (table_at new db)
  pub timed : IsTimed m (table_at new db) (deadlines_at new db)
  pub values : (at : ℕ) (e : Element V) → item (table_at new db) at ≡ Some e → IsSound old.limits old.seed m e.value
  pub seeds : HasSeed (base_at old db) old.seed → HasSeed (base_at new db) old.seed

module _ {V : Type 0} {IsSound : Limits → ℕ → Blocks → V → Type 0} (m : Blocks) (old new : Bases V) (db : ℕ) (a : IsArranged IsSound old m) where
  module _ (c : ChangesTable old new db) (keyed : Keyed m (table_at new db)) where
    -- the deadlines are those that were there
    stay_timed : IsTimed m (table_at new db) (deadlines_at old db) → (table_at new db).seed ≡ (table_at old db).seed
        → ((at : ℕ) (e : Element V) → item (table_at new db) at ≡ Some e → IsSound old.limits old.seed m e.value) → InOrder IsSound m old new db
    stay_timed t seed values = record {
      keyed = keyed;
      values = values;
      timed = subst (IsTimed m (table_at new db)) (sym c.deadlines) t;
      seeds = λ h. record { keys = seed ∙ h.keys; deadlines = ap (λ (d : Timed). d.table.seed) c.deadlines ∙ h.deadlines };
    }

    -- a database stays in order where a value takes the place of another in its key table
    pub order_swaps : (at : ℕ) (was value : V) → Swaps (table_at old db) (table_at new db) at was value → IsSound old.limits old.seed m value → InOrder IsSound m old new db
    order_swaps at was value s sound = stay_timed (timed_swaps m (table_at old db) (table_at new db) (deadlines_at old db) at was value s (a.timed db)) s.seed each
      where
        each : (i : ℕ) (e : Element V) → item (table_at new db) i ≡ Some e → IsSound old.limits old.seed m e.value
        each i e found = elim (cases_eq i at) [
          | inl here ↦ (let changed : Some e ≡ Some (record { key = s.key; hash = s.hash; value = value }) = sym found ∙ ap (item (table_at new db)) here ∙ s.updates.changed in
              let same : e ≡ record { key = s.key; hash = s.hash; value = value } = cc in
              subst (λ (x : Element V). IsSound old.limits old.seed m x.value) (sym same) sound)
          | inr other ↦ a.values db i e (sym (s.updates.others i other) ∙ found)
        ]

    -- a database stays in order where a key without a deadline leaves its key table
    pub order_removes : (key : List ℕ) (ref : BlockRef) (value : V) → Removes m (table_at old db) (table_at new db) key ref value → Lacks m (deadlines_at old db).table key
        → InOrder IsSound m old new db
    order_removes key ref value l lacks = stay_timed (timed_removes m (table_at old db) (table_at new db) (deadlines_at old db) key ref value l lacks (a.timed db)) l.seed each
      where
        each : (i : ℕ) (e : Element V) → item (table_at new db) i ≡ Some e → IsSound old.limits old.seed m e.value
        each i e found = elim (cases_eq i l.at) [
          | inl here ↦ (let none : Some e ≡ None = sym found ∙ ap (item (table_at new db)) here ∙ l.updates.changed in absurd cc)
          | inr other ↦ a.values db i e (sym (l.updates.others i other) ∙ found)
        ]

  -- the keys are those that were there
  pub order_times : ChangesDeadlines old new db → IsTimed m (table_at old db) (deadlines_at new db) → (deadlines_at new db).table.seed ≡ (deadlines_at old db).table.seed → InOrder IsSound m old new db
  order_times c t seed = record {
    keyed = subst (Keyed m) (sym c.keys) (a.keyed db);
    values = λ at e found. a.values db at e (ap (λ (k : Table V). item k at) (sym c.keys) ∙ found);
    timed = subst (λ (k : Table V). IsTimed m k (deadlines_at new db)) (sym c.keys) t;
    seeds = λ h. record { keys = ap (λ (k : Table V). k.seed) c.keys ∙ h.keys; deadlines = seed ∙ h.deadlines };
  }

module _ {V : Type 0} (a b c : Bases V) (db : ℕ) where
  -- a database changes twice
  pub base_then : ChangesBase a b db → ChangesBase b c db → ChangesBase a c db
  base_then p q = record {
    others = λ number other. q.others number other ∙ p.others number other;
    count = q.count ∙ p.count;
    settings = record { limits = q.settings.limits ∙ p.settings.limits; seed = q.settings.seed ∙ p.settings.seed; turn = q.settings.turn ∙ p.settings.turn };
  }

  -- a database that is in order after each of two changes is in order after both
  pub order_then : {IsSound : Limits → ℕ → Blocks → V → Type 0} (m : Blocks) → ChangesBase a b db → InOrder IsSound m a b db → InOrder IsSound m b c db → InOrder IsSound m a c db
  order_then {IsSound} m p x y = record {
    keyed = y.keyed;
    values = λ at e found. subst (λ limits. IsSound limits a.seed m e.value) p.settings.limits (subst (λ seed. IsSound b.limits seed m e.value) p.settings.seed (y.values at e found));
    timed = y.timed;
    seeds = λ h. subst (HasSeed (base_at c db)) p.settings.seed (y.seeds (subst (HasSeed (base_at b db)) (sym p.settings.seed) (x.seeds h)));
  }

-- values that own the same references in two ways own the same together
module _ {V : Type 0} (f g : V → List BlockRef) where
  own_same : (o : Option (Element V)) → ((e : Element V) → o ≡ Some e → g e.value ≡ f e.value) → own_of g o ≡ own_of f o
  own_same None all = refl
  own_same (Some e) all = ap (λ list. e.key ∷ list) (all e refl)

  items_same : (items : List (Option (Element V))) → ((at : ℕ) (e : Element V) → at_item items at ≡ Some e → g e.value ≡ f e.value) → flat_map (own_of g) items ≡ flat_map (own_of f) items
  items_same [] all = refl
  items_same (o ∷ items) all = λ i. own_same o (λ e is. all 0 e is) i ++ items_same items (λ at e is. all (suc at) e is) i

  -- what a table owns
  pub refs_same : (t : Table V) → ((at : ℕ) (e : Element V) → item t at ≡ Some e → g e.value ≡ f e.value) → refs g t ≡ refs f t
  refs_same t all = items_same t.items all

  -- what the databases own
  pub owned_same : (bases : Bases V) → ((db at : ℕ) (e : Element V) → item (table_at bases db) at ≡ Some e → g e.value ≡ f e.value) → owned g bases ≡ owned f bases
  owned_same bases all = in_list bases.bases all
    where
      in_list : (list : List (Base V)) → ((db at : ℕ) (e : Element V) → item (get_or list db (no_base 0)).keys at ≡ Some e → g e.value ≡ f e.value)
          → flat_map (λ (b : Base V). refs g b.keys) list ≡ flat_map (λ (b : Base V). refs f b.keys) list
      in_list [] all = refl
      in_list (b ∷ list) all = λ i. refs_same b.keys (λ at e is. all 0 at e is) i ++ in_list list (λ db at e is. all (suc db) at e is) i

module _ {V : Type 0} (refs_of : V → List BlockRef) where
  -- ---- what the databases own

  -- the references that one database owns: its key blocks, and the blocks of its values
  abbrev base_refs : Base V → List BlockRef
  base_refs base = refs refs_of base.keys

  -- a table's references are among those of the databases
  pub table_owned : (bases : Bases V) (db : ℕ) (r : BlockRef) → times r (refs refs_of (table_at bases db)) ≤ times r (owned refs_of bases)
  table_owned bases db r = in_list bases.bases db
    where
      in_list : (list : List (Base V)) (db : ℕ) → times r (base_refs (get_or list db (no_base 0))) ≤ times r (flat_map base_refs list)
      in_list [] db = omega arith
      in_list (b ∷ list) zero = omega (arith, times-append r (base_refs b) (flat_map base_refs list))
      in_list (b ∷ list) (suc db) = omega (arith, times-append r (base_refs b) (flat_map base_refs list), in_list list db)

  -- one database changes
  pub owned_changed : (old new : Bases V) (db : ℕ) → ChangesBase old new db → (r : BlockRef)
      → times r (owned refs_of new) + times r (refs refs_of (table_at old db)) ≡ times r (owned refs_of old) + times r (refs refs_of (table_at new db))
  owned_changed old new db c r = times_changed base_refs (no_base 0) refl r old.bases new.bases db c.others

  -- the deadlines own nothing
  pub owned_times : (old new : Bases V) (db : ℕ) → ChangesDeadlines old new db → (r : BlockRef) → times r (owned refs_of new) ≡ times r (owned refs_of old)
  owned_times old new db c r = let same = ap (λ (k : Table V). times r (refs refs_of k)) c.keys in omega (arith, same, owned_changed old new db c.base r)

  module _ (old new : Bases V) (db : ℕ) (c : ChangesBase old new db) (r : BlockRef) where
    -- where an element joins, the databases own its key block and its value's blocks besides what they owned
    pub owned_joins : (at : ℕ) (e : Element V) → Adds (table_at old db) (table_at new db) at e → times r (owned refs_of new) ≡ times r (owned refs_of old) + times r (e.key ∷ refs_of e.value)
    owned_joins at e a =
        let none : times r (own_of refs_of (item (table_at old db) at)) ≡ 0 = ap (λ o. times r (own_of refs_of o)) a.vacant in
        omega (arith, none, refs_changed refs_of (table_at old db) (table_at new db) at (Some e) a.updates r, owned_changed old new db c r)

    -- where a key leaves, the databases owned its key block and its value's blocks besides what they own
    pub owned_leaves : (m : Blocks) (key : List ℕ) (ref : BlockRef) (value : V) → Removes m (table_at old db) (table_at new db) key ref value
        → times r (owned refs_of old) ≡ times r (owned refs_of new) + times r (ref ∷ refs_of value)
    owned_leaves m key ref value l =
        let there : times r (own_of refs_of (item (table_at old db) l.at)) ≡ times r (ref ∷ refs_of value) = ap (λ o. times r (own_of refs_of o)) l.found in
        omega (arith, there, refs_changed refs_of (table_at old db) (table_at new db) l.at None l.updates r, owned_changed old new db c r)

    -- where a value takes the place of another, its blocks take the place of the other's among those owned
    pub owned_swaps : (at : ℕ) (was value : V) → Swaps (table_at old db) (table_at new db) at was value
        → times r (owned refs_of new) + times r (refs_of was) ≡ times r (owned refs_of old) + times r (refs_of value)
    owned_swaps at was value s =
        let there : times r (own_of refs_of (item (table_at old db) at)) ≡ times r (s.key ∷ refs_of was) = ap (λ o. times r (own_of refs_of o)) s.found in
        omega (arith, there, refs_changed refs_of (table_at old db) (table_at new db) at (Some (record { key = s.key; hash = s.hash; value = value })) s.updates r, owned_changed old new db c r)

module _ {V : Type 0} {IsSound : Limits → ℕ → Blocks → V → Type 0} (refs_of : Blocks → V → List BlockRef) (value_of : Blocks → V → Value) (own : ReadsOwn refs_of value_of IsSound) where
  -- ---- the store changes outside

  module _ (bases : Bases V) (m after : Blocks) (out xs ys : List BlockRef) (intact : IsIntact refs_of IsSound bases m out) (p : Changes m after xs ys) where
    -- what is named and doesn't change keeps its bytes
    pub kept_named : (r : BlockRef) → 0 < times r (owned (refs_of m) bases) + times r out → times r xs ≡ 0 → after r ≡ m r
    kept_named r named apart =
        owned_others m after xs ys (owned (refs_of m) bases ++ out) (λ q. omega (arith, times-append q (owned (refs_of m) bases) out, intact.owned q)) p r
        (omega (arith, times-append r (owned (refs_of m) bases) out, named)) apart

    module _ (part : (r : BlockRef) → times r xs ≤ times r out) where
      -- what changes was out, so what the databases own stays
      pub kept_inside : (r : BlockRef) → 0 < times r (owned (refs_of m) bases) → after r ≡ m r
      kept_inside r named = kept_named r (omega (arith, named)) (omega (arith, named, intact.owned r, live_once m r, part r))

      -- where only blocks that were out change, each element's key keeps its bytes and its value its meaning
      kept_table : (db at : ℕ) (e : Element V) → item (table_at bases db) at ≡ Some e → (after e.key ≡ m e.key) × (value_of after e.value ≡ value_of m e.value)
      kept_table db at e found =
          let named : (r : BlockRef) → 0 < times r (e.key ∷ refs_of m e.value)
          → after r ≡ m r = (λ r one. kept_inside r (omega (arith, one, named_in (refs_of m) (table_at bases db) at e r found, table_owned (refs_of m) bases db r))) in
          (named e.key (let itself : one_if (ref_eq e.key e.key) ≡ 1 = cond-true _ _ _ (ref_eq_refl e.key) in omega (arith, itself)), own.means m after e.value (λ r one. named r (omega (arith, one))))

      -- where only blocks that were out change, the keys of each table stay live blocks whose bytes differ
      kept_keyed : (db : ℕ) → Keyed after (table_at bases db)
      kept_keyed db = (keyed_frame m after (table_at bases db) (intact.arranged.keyed db) (λ at e found. (kept_table db at e found).0)).0

      -- where only blocks that were out change, each deadline stays that of a key, and all mean what they meant
      pub kept_timed : (db : ℕ) → IsTimed after (table_at bases db) (deadlines_at bases db) × (moments after (deadlines_at bases db) ≡ moments m (deadlines_at bases db))
      kept_timed db = timed_frame m after (table_at bases db) (deadlines_at bases db) (intact.arranged.timed db) (λ at e found. (kept_table db at e found).0)

      -- where only blocks that were out change, each value stays sound
      kept_values : (db at : ℕ) (e : Element V) → item (table_at bases db) at ≡ Some e → IsSound bases.limits bases.seed after e.value
      kept_values db at e found =
          let named : (r : BlockRef) → 0 < times r (e.key ∷ refs_of m e.value)
          → after r ≡ m r = (λ r one. kept_inside r (omega (arith, one, named_in (refs_of m) (table_at bases db) at e r found, table_owned (refs_of m) bases db r))) in
          own.stays bases.limits bases.seed m after e.value (λ r one. named r (omega (arith, one))) (intact.arranged.values db at e found)

      -- where only blocks that were out change, each value owns what it owned
      pub refs_out : (db at : ℕ) (e : Element V) → item (table_at bases db) at ≡ Some e → refs_of after e.value ≡ refs_of m e.value
      refs_out db at e found =
          let named : (r : BlockRef) → 0 < times r (e.key ∷ refs_of m e.value)
          → after r ≡ m r = (λ r one. kept_inside r (omega (arith, one, named_in (refs_of m) (table_at bases db) at e r found, table_owned (refs_of m) bases db r))) in
          own.refs m after e.value (λ r one. named r (omega (arith, one)))

      -- and so the databases do
      pub owned_out : owned (refs_of after) bases ≡ owned (refs_of m) bases
      owned_out = owned_same (refs_of m) (refs_of after) bases refs_out

      -- where only blocks that were out change, the databases stay arranged
      pub arranged_out : IsArranged IsSound bases after
      arranged_out = record {
        keyed = kept_keyed;
        timed = λ db. (kept_timed db).0;
        values = kept_values;
        sixteen = intact.arranged.sixteen;
        limits = intact.arranged.limits;
        seeds =
            intact.arranged.seeds;
        turn = intact.arranged.turn;
      }

      -- where only blocks that were out change, each key table means the keys and values that it meant
      values_out : (db : ℕ) → map_of after (value_of after) (table_at bases db) ≡ map_of m (value_of m) (table_at bases db)
      values_out db = map_of_frame m after (value_of m) (value_of after) (table_at bases db) (intact.arranged.keyed db) (kept_keyed db) (kept_table db)

      -- where only blocks that were out change, each database means what it meant
      pub base_out : (db : ℕ) → base_means value_of after (base_at bases db) ≡ base_means value_of m (base_at bases db)
      base_out db = λ i. with_deadlines (values_out db i) ((kept_timed db).1 i)

      -- where only blocks that were out change, the databases mean the world that they meant
      pub means_out : (db : ℕ) → means value_of db bases after ≡ means value_of db bases m
      means_out db = λ i. record { bases = λ number. base_out number i; selected = db }

      -- the references that are out afterwards
      pub intact_out : (later : List BlockRef) → ((r : BlockRef) → times r later + times r xs ≡ times r out + times r ys) → IsIntact refs_of IsSound bases after later
      intact_out later same = record {
        owned = λ r. omega (arith, intact.owned r, same r, ap (times r) owned_out, (counts_changed m after xs ys (λ q. omega (arith, intact.owned q, part q)) p).balance r);
        arranged = arranged_out;
      }

  -- ---- one database changes over the same store

  module _ (old new : Bases V) (db : ℕ) (m : Blocks) (c : ChangesBase old new db) where
    -- where one database changes and is in order, the databases stay arranged
    pub arranged_changed : IsArranged IsSound old m → InOrder IsSound m old new db → IsArranged IsSound new m
    arranged_changed a order = record {
      keyed = λ number. elim (cases_eq number db) [
        | inl here ↦ subst (λ n. Keyed m (table_at new n)) (sym here) order.keyed
        | inr other ↦ subst (λ (b : Base V). Keyed m b.keys) (sym (c.others number other)) (a.keyed number)
      ];
      timed = λ number. elim (cases_eq number db) [
        | inl here ↦ subst (λ n. IsTimed m (table_at new n) (deadlines_at new n)) (sym here) order.timed
        | inr other ↦ subst (λ (b : Base V). IsTimed m b.keys b.deadlines) (sym (c.others number other)) (a.timed number)
      ];
      values = λ number at e found. subst (λ limits. IsSound limits new.seed m e.value) (sym c.settings.limits)
          (subst (λ seed. IsSound old.limits seed m e.value) (sym c.settings.seed) (elim (cases_eq number db) [
            | inl here ↦ order.values at e (subst (λ n. item (table_at new n) at ≡ Some e) here found)
            | inr other ↦ a.values number at e (ap (λ (b : Base V). item b.keys at) (sym (c.others number other)) ∙ found)
          ]));
      sixteen = c.count ∙ a.sixteen;
      limits = subst AreInRange (sym c.settings.limits) a.limits;
      seeds = λ number within. subst (HasSeed (base_at new number)) (sym c.settings.seed) (elim (cases_eq number db) [
        | inl here ↦ subst (λ n. HasSeed (base_at new n) old.seed) (sym here) (order.seeds (subst (λ n. HasSeed (base_at old n) old.seed) here (a.seeds number within)))
        | inr other ↦ subst (λ (b : Base V). HasSeed b old.seed) (sym (c.others number other)) (a.seeds number within)
      ]);
      turn = omega (arith, a.turn, c.settings.turn);
    }

    -- where one database changes, the world has in its place what it means now, and else what it had
    pub means_changed : (base : Database) → base_means value_of m (base_at new db) ≡ base → means value_of db new m ≡ with_base (means value_of db old m) base
    means_changed base is = λ i. record { bases = λ number. each number i; selected = db }
      where
        each : (number : ℕ) → base_means value_of m (base_at new number) ≡ (with_base (means value_of db old m) base).bases number
        each number = elim (cases_eq number db) [
          | inl here ↦ ap (λ n. base_means value_of m (base_at new n)) here ∙ is ∙ sym (cond-true _ _ _ (eq-eqb number db here))
          | inr other ↦ ap (base_means value_of m) (c.others number other) ∙ sym (cond-false _ _ _ (ne_eqb number db other))
        ]

    module _ (out : List BlockRef) (intact : IsIntact refs_of IsSound old m out) (order : InOrder IsSound m old new db) where
      -- a value takes the place of another
      pub swapped_intact : (at : ℕ) (was value : V) → Swaps (table_at old db) (table_at new db) at was value → (later : List BlockRef)
          → ((r : BlockRef) → times r later + times r (refs_of m value) ≡ times r out + times r (refs_of m was)) → IsIntact refs_of IsSound new m later
      swapped_intact at was value s later same = record {
        owned = λ r. omega (arith, intact.owned r, same r, owned_swaps (refs_of m) old new db c r at was value s);
        arranged = arranged_changed intact.arranged order;
      }

      -- an element joins
      pub joined_intact : (at : ℕ) (e : Element V) → Adds (table_at old db) (table_at new db) at e → (later : List BlockRef)
          → ((r : BlockRef) → times r later + times r (e.key ∷ refs_of m e.value) ≡ times r out) → IsIntact refs_of IsSound new m later
      joined_intact at e a later same = record {
        owned = λ r. omega (arith, intact.owned r, same r, owned_joins (refs_of m) old new db c r at e a);
        arranged = arranged_changed intact.arranged order;
      }

  module _ (old new : Bases V) (db : ℕ) (m : Blocks) where
    -- a key gets a value and a deadline
    pub put_means : ChangesBase old new db → (key : List ℕ) (value : Value) (deadline : Option ℕ) → map_of m (value_of m) (table_at new db) ≡ insert (map_of m (value_of m) (table_at old db)) key value
        → moments m (deadlines_at new db) ≡ with_deadline (moments m (deadlines_at old db)) key deadline
        → means value_of db new m ≡ put (means value_of db old m) key (record { value = value; deadline = deadline })
    put_means c key value deadline values times =
        means_changed old new db m c _ ((λ i. with_deadlines (values i) (times i)) ∙ with_put (map_of m (value_of m) (table_at old db)) (moments m (deadlines_at old db)) key value deadline)

    -- a key leaves with its deadline
    pub remove_base : (key : List ℕ) → map_of m (value_of m) (table_at new db) ≡ remove (map_of m (value_of m) (table_at old db)) key
        → moments m (deadlines_at new db) ≡ remove (moments m (deadlines_at old db)) key → base_means value_of m (base_at new db) ≡ remove (base_means value_of m (base_at old db)) key
    remove_base key values times = (λ i. with_deadlines (values i) (times i)) ∙ with_removed (map_of m (value_of m) (table_at old db)) (moments m (deadlines_at old db)) key

    module _ (a : IsArranged IsSound old m) (at : ℕ) where
      -- a value takes the place of another: the key keeps its deadline
      pub swapped_means : ChangesTable old new db → Keyed m (table_at new db) → (was value : V) (s : Swaps (table_at old db) (table_at new db) at was value) (key : List ℕ)
          → m s.key ≡ Some key → (deadline : Option ℕ) → get (moments m (deadlines_at old db)) key ≡ deadline
          → means value_of db new m ≡ put (means value_of db old m) key (record { value = value_of m value; deadline = deadline })
      swapped_means c keyed was value s key bytes deadline lasts =
          put_means c.base key (value_of m value) deadline
          (map_of_swaps m (value_of m) (table_at old db) (table_at new db) (a.keyed db) at was value keyed s
          ∙ ap (λ k. insert (map_of m (value_of m) (table_at old db)) k (value_of m value)) (ap (key_of m) s.found ∙ some_bytes m s.key key bytes))
          (ap (moments m) c.deadlines ∙ sym (same_deadline (moments m (deadlines_at old db)) key deadline lasts))

      -- an element joins
      pub joined_means : ChangesBase old new db → Keyed m (table_at new db) → (e : Element V) → Adds (table_at old db) (table_at new db) at e → (key : List ℕ) → m e.key ≡ Some key
          → (deadline : Option ℕ) → moments m (deadlines_at new db) ≡ with_deadline (moments m (deadlines_at old db)) key deadline
          → means value_of db new m ≡ put (means value_of db old m) key (record { value = value_of m e.value; deadline = deadline })
      joined_means c keyed e adds key bytes deadline times =
          put_means c key (value_of m e.value) deadline
          (map_of_adds m (value_of m) (table_at old db) (table_at new db) (a.keyed db) at e keyed (ap is_some bytes) adds
          ∙ ap (λ k. insert (map_of m (value_of m) (table_at old db)) k (value_of m e.value)) (some_bytes m e.key key bytes)) times

    -- a key's deadline is set, or goes
    pub retimed_means : (c : ChangesDeadlines old new db) (key : List ℕ) (value : Value) → get (map_of m (value_of m) (table_at old db)) key ≡ Some value → (deadline : Option ℕ)
        → moments m (deadlines_at new db) ≡ with_deadline (moments m (deadlines_at old db)) key deadline
        → means value_of db new m ≡ put (means value_of db old m) key (record { value = value; deadline = deadline })
    retimed_means c key value there deadline times =
        put_means c.base key value deadline (ap (map_of m (value_of m)) c.keys ∙ sym (same_value (map_of m (value_of m) (table_at old db)) key value there)) times

    -- the deadlines mean what they meant
    pub same_times : (c : ChangesDeadlines old new db) → moments m (deadlines_at new db) ≡ moments m (deadlines_at old db) → means value_of db new m ≡ means value_of db old m
    same_times c times = λ i. record { bases = λ number. each number i; selected = db }
      where
        each : (number : ℕ) → base_means value_of m (base_at new number) ≡ base_means value_of m (base_at old number)
        each number = elim (cases_eq number db) [
          | inl here ↦ ap (λ n. base_means value_of m (base_at new n)) here ∙ (λ i. with_deadlines (map_of m (value_of m) (c.keys i)) (times i))
              ∙ sym (ap (λ n. base_means value_of m (base_at old n)) here)
          | inr other ↦ ap (base_means value_of m) (c.base.others number other)
        ]

  -- ---- soundness after a call

  -- where a call changes what was owned and a part of what was out, the databases are sound beside the rest
  pub sound_after : (old new : Bases V) (m after : Blocks) (xs part all out : List BlockRef) → SoundBeside refs_of IsSound old m all → AreParts all part out
      → AreParts xs (owned (refs_of m) old) part → Changes m after xs (owned (refs_of after) new) → IsArranged IsSound new after → SoundBeside refs_of IsSound new after out
  sound_after old new m after xs part all out sound parts taken p arranged = record {
    owns = λ r. omega (arith, sound.owns r, parts r, taken r, (counts_changed m after xs (owned (refs_of after) new) (λ q. omega (arith, sound.owns q, parts q, taken q)) p).balance r);
    arranged = arranged;
  }

  -- databases that are sound beside references are intact with these out of them
  pub sound_intact : (bases : Bases V) (m : Blocks) (out : List BlockRef) → SoundBeside refs_of IsSound bases m out → IsIntact refs_of IsSound bases m out
  sound_intact bases m out sound = record { owned = λ r. omega (arith, sound.owns r); arranged = sound.arranged }

  -- where the call took nothing in
  pub sound_kept : (old new : Bases V) (m after : Blocks) → Changes m after (owned (refs_of m) old) (owned (refs_of after) new) → IsArranged IsSound new after → (out : List BlockRef)
      → SoundBeside refs_of IsSound old m out → SoundBeside refs_of IsSound new after out
  sound_kept old new m after p arranged out sound = sound_after old new m after (owned (refs_of m) old) [] out out sound (λ r. omega arith) (λ r. omega arith) p arranged

  -- where it took the references in that are no longer out
  pub sound_joined : (old new : Bases V) (m after : Blocks) (part : List BlockRef) → Changes m after (owned (refs_of m) old ++ part) (owned (refs_of after) new)
      → IsArranged IsSound new after → (all out : List BlockRef) → SoundBeside refs_of IsSound old m all → AreParts all part out → SoundBeside refs_of IsSound new after out
  sound_joined old new m after part p arranged all out sound parts =
      sound_after old new m after (owned (refs_of m) old ++ part) part all out sound parts (λ r. times-append r (owned (refs_of m) old) part) p arranged
