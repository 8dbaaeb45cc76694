-- What a walk has passed where it goes on.
use Rattle.std.proofs.Common.{Bool, cond, ◌&&◌, ◌≢◌, ◌≡◌, ◌⊎◌, inl, inr, ℕ, suc, ◌+◌, ◌-◌, ◌/◌, ◌<◌, ◌≤◌, true, false, List, [], ◌∷◌, length, get_or, flat_map, Option, Some, None, is_some}
use Rattle.std.proofs.Common.{IsSome, refl, sym, ap, ◌∙◌, subst, arith}
use Rattle.object_codec.specs.declared.limits.Limits.{Limits}
use Rattle.std.specs.Prelude.{IfSome, count_by, unwrap_or, nat_le}
use Rattle.std.specs.List.{slice_get}
use Rattle.std.proofs.lemmas.Bool.{cases_eq, cases_lt, cond-false, and_from, le-leb, lt-ltb}
use Rattle.std.proofs.lemmas.Option.{slice_get_within, slice_get-get_or}
use Rattle.blocks.specs.declared.BlockRef.{BlockRef}
use Rattle.blocks.specs.declared.Moved.{Moved}
use Rattle.blocks.specs.Blocks.{Blocks, times, IsIn}
use Rattle.blocks.specs.Slabs.{Heap, wants, per_slab, used_of, needed, Calmer}
use Rattle.blocks.proofs.Refs.{cases_ref}
use Rattle.blocks.proofs.Change.{one, cases_in, live_some, changes_same}
use Rattle.blocks.proofs.Sweeps.{calmer_same}
use Rattle.blocks.proofs.Times.{times-append}
use Rattle.rehash_dict.specs.Table.{at_item}
use Rattle.held.specs.declared.databases.Base.{Base}
use Rattle.held.specs.Table.{Table, Element, item, own_of, refs}
use Rattle.held.specs.Databases.{Bases, no_base, table_at, owned}
use Rattle.stored.specs.Owning.{ReadsOwn}
use Rattle.held.specs.Sound.{IsIntact, Sound}
use Rattle.held.specs.Relocation.{PassesElement, Relocates, SameTops, names_from}
use Rattle.stored.specs.Passing.{Marks, passed_of}
use Rattle.rehash_dict.specs.Tables.{Tables}
use Rattle.blocks.specs.Blocks.{live}
use Rattle.blocks.proofs.Sums.{count_cons}
use Rattle.std.proofs.lemmas.Grind.{common_steps}
use Rattle.collection_walk.specs.Marks.{is_before, is_passed}
use Rattle.held.proofs.Rehashing.{preserves_none}
use Rattle.plain_world.specs.Worlds.{Value}
use Rattle.defrag.specs.declared.walk.Walk.{Walk}
use Rattle.defrag.specs.Swept.{ComesBefore, HasPassed, IsSwept, of_database, of_item, of_mark}
use Rattle.defrag.specs.Ways.{Shapes, shapes, shape_of, shape, SameShapes, behind, next_database, Leg, Way, IsOn, IsForward, vacant, ended, inside, here, further}

-- two values of one option are the same
some_same : {A : Type 0} (o : Option A) (x y : A) → o ≡ Some x → o ≡ Some y → x ≡ y
some_same o x y h k = cc

-- no option that has a value is none
some_none : {A : Type 0} {X : Type 0} (o : Option A) (x : A) → o ≡ Some x → o ≡ None → X
some_none o x h k = cc

-- a reference that stands in a list stands there at an index
in_list : (r : BlockRef) (xs : List BlockRef) → 0 < times r xs → (i : ℕ) × (slice_get xs i ≡ Some r)
in_list r [] h = absurd (omega (arith, h))
in_list r (x ∷ xs) h = elim (cases_ref x r) [
  | inl same ↦ (0, ap Some same)
  | inr other ↦
      (let none : one r x ≡ 0 = cond-false _ _ _ other in
      let rest = in_list r xs (omega (arith, h, none)) in
      (suc rest.0, rest.1))
]

-- a reference that stands in a list of one is that one
in_one : (r at : BlockRef) → 0 < times r (at ∷ []) → r ≡ at
in_one r at h = elim (cases_ref at r) [
  | inl same ↦ sym same
  | inr other ↦ absurd (let none : one r at ≡ 0 = cond-false _ _ _ other in omega (arith, none, h))
]

-- as many slabs are needed where as many blocks stand in them
needed_same : (a b : Heap) (class : ℕ) → used_of b class ≡ used_of a class → needed b class ≡ needed a class
needed_same a b class same = ap (λ u. (u + (per_slab class - 1)) / per_slab class) same

module _ {V : Type 0} (refs_of : V → List BlockRef) (marks : V → Marks) where
  -- the walk goes past an item number that is vacant
  pub swept_vacant : (bases : Bases V) (heap : Heap) (walk : Walk) → item (table_at bases walk.database) walk.item ≡ None → IsSwept refs_of marks bases heap walk
      → IsSwept refs_of marks bases heap (behind walk None)
  swept_vacant bases heap walk none s = record { passing = s.passing; kept = s.kept; calm = λ r p. s.calm r (back r p) }
    where
      back : (r : BlockRef) → HasPassed refs_of marks bases (behind walk None) r → HasPassed refs_of marks bases walk r
      back r (of_database number at e lt found isin) = of_database number at e lt found isin
      back r (of_item at e lt found isin) = elim (cases_lt at walk.item) [
        | inl less ↦ of_item at e less found isin
        | inr over ↦
            (let same : at ≡ walk.item = omega (arith, lt, over) in some_none (item (table_at bases walk.database) walk.item) e
            (ap (item (table_at bases walk.database)) (sym same) ∙ found) none)
      ]
      back r (of_mark e found before) = absurd before

  -- the walk goes past the end of a database
  pub swept_ended : (bases : Bases V) (heap : Heap) (walk : Walk) → ((at : ℕ) → walk.item ≤ at → item (table_at bases walk.database) at ≡ None) → IsSwept refs_of marks bases heap walk
      → IsSwept refs_of marks bases heap (next_database walk)
  swept_ended bases heap walk none s = record { passing = s.passing; kept = s.kept; calm = λ r p. s.calm r (back r p) }
    where
      back : (r : BlockRef) → HasPassed refs_of marks bases (next_database walk) r → HasPassed refs_of marks bases walk r
      back r (of_database number at e lt found isin) = elim (cases_lt number walk.database) [
        | inl less ↦ of_database number at e less found isin
        | inr over ↦
            (let same : number ≡ walk.database = omega (arith, lt, over) in
            let there : item (table_at bases walk.database) at ≡ Some e = subst (λ n. item (table_at bases n) at ≡ Some e) same found in
            elim (cases_lt at walk.item) [
              | inl less ↦ of_item at e less there isin
              | inr over' ↦ some_none (item (table_at bases walk.database) at) e there (none at over')
            ])
      ]
      back r (of_item at e lt found isin) = absurd (omega (arith, lt))
      back r (of_mark e found before) = absurd before

-- a mark below the one that a call begins at isn't passed
not_passed : (mark from : ℕ) (next : Option ℕ) → mark < from → is_passed from next mark ≡ false
not_passed mark from next less = ap (λ b. b && is_before next mark) (by_test (nat_le from mark) refl)
  where
    by_test : (b : Bool) → nat_le from mark ≡ b → b ≡ false
    by_test true is = (let over : from ≤ mark = grind (arith, common_steps, is) in absurd (omega (arith, over, less)))
    by_test false is = refl

module _ {V E : Type 0} (refs_of : Blocks → V → List BlockRef) (marks : Blocks → V → Marks) (tables : Blocks → V → Tables (List ℕ)) (encoding : V → E)
    (refs_own : (m after : Blocks) (value : V) → ((r : BlockRef) → 0 < times r (refs_of m value) → after r ≡ m r) → refs_of after value ≡ refs_of m value)
    (marked : (m : Blocks) (value : V) → length (marks m value).named ≡ length (refs_of m value)) (m after : Blocks) where
  -- the walk passes a part of a key's blocks
  module _ (old new : Bases V) (heap later : Heap) (walk : Walk) (room : ℕ) (answer : Moved)
      (p : PassesElement refs_of marks tables encoding m after later old new walk.database walk.item walk.mark room answer) where
    -- passing a part of a key's blocks is one leg of the walk, with the units that the call used
    pub leg_inside : Leg (shapes (marks m) old) walk answer.used (behind walk answer.next)
    leg_inside = inside (marks m p.was.value) answer.next (ap (shape_of (marks m)) p.replaces.found) (first answer.next p.bounded.on)
        (p.bounded.used ∙ ap (λ ms. names_from walk.mark + passed_of ms (unwrap_or walk.mark 0) answer.next) p.same_marks) refl
      where
        first : (o : Option ℕ) → IfSome o (λ next. (unwrap_or walk.mark 0 < next) × (room ≤ answer.used + 17)) → IfSome o (λ next. unwrap_or walk.mark 0 < next)
        first None h = tt
        first (Some next) h = h.0

    -- what is told of all values stays where it stays of the one that was passed and of the others
    pub told_same : {A : Type 0} (told : Blocks → V → A) → told after p.now.value ≡ told m p.was.value
        → ((number at : ℕ) (e : Element V) → (number ≢ walk.database) ⊎ (at ≢ walk.item) → item (table_at old number) at ≡ Some e → told after e.value ≡ told m e.value)
        → SameShapes (told m) (told after) old new
    told_same {A} told passed other number at = elim (cases_eq number walk.database) [
      | inl one ↦ elim (cases_eq at walk.item) [
        | inl two ↦
            subst (λ n. shape (told after) new n at ≡ shape (told m) old n at) (sym one)
            (subst (λ i. shape (told after) new walk.database i ≡ shape (told m) old walk.database i) (sym two)
            (ap (shape_of (told after)) p.replaces.stands ∙ ap Some passed ∙ sym (ap (shape_of (told m)) p.replaces.found)))
        | inr off ↦ apart (inr off)
      ]
      | inr off ↦ apart (inl off)
    ]
      where
        at_other : (o : Option (Element V)) → ((e : Element V) → o ≡ Some e → told after e.value ≡ told m e.value) → shape_of (told after) o ≡ shape_of (told m) o
        at_other None h = refl
        at_other (Some e) h = ap Some (h e refl)

        apart : (number ≢ walk.database) ⊎ (at ≢ walk.item) → shape (told after) new number at ≡ shape (told m) old number at
        apart off = ap (shape_of (told after)) (p.replaces.others number at off) ∙ at_other (item (table_at old number) at) (λ e found. other number at e off found)

    module _ (calmer : Calmer heap later) (s : IsSwept (refs_of m) (marks m) old heap walk) where
      -- a block that the walk had passed wants no move after the call
      was_calm : (r : BlockRef) → HasPassed (refs_of m) (marks m) old walk r → wants later r ≡ false
      was_calm r h = calmer.calm r (s.calm r h)

      -- a block of the element before the walk's mark wants no move after the call
      before_calm : (r : BlockRef) (b : ℕ) → walk.mark ≡ Some b → ComesBefore (refs_of m) (marks m) p.was (Some b) r → wants later r ≡ false
      before_calm r b is h = was_calm r (of_mark p.was p.replaces.found (subst (λ o. ComesBefore (refs_of m) (marks m) p.was o r) (sym is) h))

      -- the block of the element's key wants no move after the call
      name_calm : (r : BlockRef) → r ≡ p.now.key → wants later r ≡ false
      name_calm r is = by_mark walk.mark refl
        where
          by_mark : (o : Option ℕ) → walk.mark ≡ o → wants later r ≡ false
          by_mark None e = ap (wants later) is ∙ p.name_passed e
          by_mark (Some b) e = before_calm r b e (inl (is ∙ p.name_stays (ap is_some e)))

      -- a block of the value whose mark is below the next one to go on from wants no move
      value_calm : (index mark : ℕ) (r : BlockRef) → slice_get (marks after p.now.value).named index ≡ Some mark → slice_get (refs_of after p.now.value) index ≡ Some r
          → is_before answer.next mark ≡ true → wants later r ≡ false
      value_calm index mark r has named before = elim (cases_lt mark (unwrap_or walk.mark 0)) [
        | inl less ↦ by_mark walk.mark refl less
        | inr over ↦ p.passed.calm index mark r has named (and_from _ _ (le-leb (unwrap_or walk.mark 0) mark over) before)
      ]
        where
          by_mark : (o : Option ℕ) → walk.mark ≡ o → mark < unwrap_or walk.mark 0 → wants later r ≡ false
          by_mark None e less = absurd (let none : unwrap_or walk.mark 0 ≡ 0 = ap (λ o. unwrap_or o 0) e in omega (arith, less, none))
          by_mark (Some b) e less =
              let bound : unwrap_or walk.mark 0 ≡ b = ap (λ o. unwrap_or o 0) e in
              before_calm r b e (inr (record {
                index = index;
                mark = mark;
                named = sym (p.passed.stays index mark has (not_passed mark (unwrap_or walk.mark 0) answer.next less)) ∙ named;
                marked = ap (λ (ms : Marks). slice_get ms.named index) (sym p.same_marks) ∙ has;
                below = omega (arith, less, bound);
              }))

      -- every other element owns what it owned
      same_refs : (number at : ℕ) (e : Element V) → (number ≢ walk.database) ⊎ (at ≢ walk.item) → item (table_at old number) at ≡ Some e → (r : BlockRef)
          → IsIn r (e.key ∷ refs_of after e.value) → IsIn r (e.key ∷ refs_of m e.value)
      same_refs number at e off stood r isin = subst (λ list. IsIn r (e.key ∷ list)) (refs_own m after e.value (p.apart number at e off stood)) isin

      -- a key of a lower item number, or of a lower database
      low_calm : (r : BlockRef) (number at : ℕ) (e : Element V) → (number < walk.database) ⊎ ((number ≡ walk.database) × (at < walk.item)) → item (table_at new number) at ≡ Some e
          → IsIn r (e.key ∷ refs_of after e.value) → wants later r ≡ false
      low_calm r number at e (inl lt) found isin =
          (let off : (number ≢ walk.database) ⊎ (at ≢ walk.item) = inl (λ same. omega (arith, lt, same)) in
          let stood = sym (p.replaces.others number at off) ∙ found in
          was_calm r (of_database number at e lt stood (same_refs number at e off stood r isin)))
      low_calm r number at e (inr low) found isin =
          (let off : (number ≢ walk.database) ⊎ (at ≢ walk.item) = inr (λ same. omega (arith, low.1, same)) in
          let stood = sym (p.replaces.others number at off) ∙ found in
          was_calm r (of_item at e low.1 (subst (λ n. item (table_at old n) at ≡ Some e) low.0 stood) (same_refs number at e off stood r isin)))

      -- where no block that a walk has passed wants a move after the call, the pass stands swept up to there
      swept_by : (walk' : Walk) → ((r : BlockRef) → HasPassed (refs_of after) (marks after) new walk' r → wants later r ≡ false) → IsSwept (refs_of after) (marks after) new later walk'
      swept_by walk' calm = record {
        passing = calmer.passing ∙ s.passing;
        kept = λ class lt. calmer.kept class ∙ s.kept class lt ∙ sym (needed_same heap later class (calmer.used class));
        calm = calm;
      }

      -- a part of the value is left
      pub swept_on : (next : ℕ) → answer.next ≡ Some next → IsSwept (refs_of after) (marks after) new later (behind walk (Some next))
      swept_on next is = swept_by (behind walk (Some next)) calm
        where
          calm : (r : BlockRef) → HasPassed (refs_of after) (marks after) new (behind walk (Some next)) r → wants later r ≡ false
          calm r (of_database number at e lt found isin) = low_calm r number at e (inl lt) found isin
          calm r (of_item at e lt found isin) = low_calm r walk.database at e (inr (refl, lt)) found isin
          calm r (of_mark e found (inl name)) = name_calm r (name ∙ ap (λ (x : Element V). x.key) (some_same (item (table_at new walk.database) walk.item) _ _ found p.replaces.stands))
          calm r (of_mark e found (inr b)) =
              let same : e ≡ p.now = some_same (item (table_at new walk.database) walk.item) _ _ found p.replaces.stands in
              value_calm b.index b.mark r (subst (λ (x : Element V). slice_get (marks after x.value).named b.index ≡ Some b.mark) same b.marked)
              (subst (λ (x : Element V). slice_get (refs_of after x.value) b.index ≡ Some r) same b.named)
              (subst (λ o. is_before o b.mark ≡ true) (sym is) (lt-ltb b.mark next b.below))

      -- where no mark is left to go on from, no block of the element wants a move
      all_calm : answer.next ≡ None → (r : BlockRef) → IsIn r (p.now.key ∷ refs_of after p.now.value) → wants later r ≡ false
      all_calm none r isin = elim (cases_in r (p.now.key ∷ [])) [
        | inr name ↦ name_calm r (in_one r p.now.key name)
        | inl out ↦
            (let at = in_list r (refs_of after p.now.value) (omega (arith, isin, out)) in
            let within : at.0 < length (marks after p.now.value).named = omega (arith, slice_get_within (refs_of after p.now.value) at.0 r at.1, marked after p.now.value) in
            value_calm at.0 (get_or (marks after p.now.value).named at.0 0) r (slice_get-get_or (marks after p.now.value).named at.0 0 within) at.1
            (subst (λ o. is_before o (get_or (marks after p.now.value).named at.0 0) ≡ true) (sym none) refl))
      ]

      -- the whole key is passed
      pub swept_over : answer.next ≡ None → IsSwept (refs_of after) (marks after) new later (behind walk None)
      swept_over none = swept_by (behind walk None) calm
        where
          calm : (r : BlockRef) → HasPassed (refs_of after) (marks after) new (behind walk None) r → wants later r ≡ false
          calm r (of_database number at e lt found isin) = low_calm r number at e (inl lt) found isin
          calm r (of_item at e lt found isin) = elim (cases_lt at walk.item) [
            | inl less ↦ low_calm r walk.database at e (inr (refl, less)) found isin
            | inr over ↦
                (let here' : at ≡ walk.item = omega (arith, lt, over) in
                let same : e ≡ p.now = some_same (item (table_at new walk.database) walk.item) _ _ (ap (item (table_at new walk.database)) (sym here') ∙ found) p.replaces.stands in
                all_calm none r (subst (λ (x : Element V). IsIn r (x.key ∷ refs_of after x.value)) same isin))
          ]
          calm r (of_mark e found before) = absurd before

-- a call that begins at 0 and goes to the end passes each mark
from_first : (x : ℕ) → is_passed 0 None x ≡ true
from_first x = and_from _ _ (le-leb 0 x (omega arith)) refl

-- all of a list are counted where each is
count_all : (test : ℕ → Bool) → ((x : ℕ) → test x ≡ true) → (xs : List ℕ) → count_by test xs ≡ length xs
count_all test all [] = refl
count_all test all (x ∷ xs) =
    let one : cond {A = ℕ} (test x) 1 0 ≡ 1 = ap (λ b. cond b 1 0) (all x) in
    omega (arith, count_cons test x xs, one, count_all test all xs)

module _ {V E : Type 0} (refs_of : Blocks → V → List BlockRef) (marks : Blocks → V → Marks) (tables : Blocks → V → Tables (List ℕ)) (encoding : V → E)
    (refs_own : (m after : Blocks) (value : V) → ((r : BlockRef) → 0 < times r (refs_of m value) → after r ≡ m r) → refs_of after value ≡ refs_of m value)
    (marked : (m : Blocks) (value : V) → length (marks m value).named ≡ length (refs_of m value)) (m : Blocks) where
  -- no block wants to move, and the walk goes past a key from its start
  module _ (bases : Bases V) (heap : Heap) (walk : Walk) (room units : ℕ) (start : walk.mark ≡ None)
      (e : Element V) (found : item (table_at bases walk.database) walk.item ≡ Some e) (calm : (r : BlockRef) → wants heap r ≡ false)
      (counted : units ≡ length (marks m e.value).named + length (marks m e.value).vacant) (fits : units < room) where
    -- the walk at the next item number
    abbrev next : Walk
    next = record { database = walk.database; item = walk.item + 1; mark = walk.mark }

    -- the answer of a call that passed all of a key's blocks
    abbrev passed : Moved
    passed = record { next = None; used = units + 1 }

    -- the place behind the whole item is the next item number
    is_behind : behind walk None ≡ next
    is_behind = λ i. record { database = walk.database; item = walk.item + 1; mark = (sym start) i }

    -- where no block wants to move, all of a key's blocks are passed and none moves
    key_passes : PassesElement refs_of marks tables encoding m m heap bases bases walk.database walk.item None room passed
    key_passes = record {
      was = e;
      now = e;
      replaces = record { found = found; stands = found; others = λ number other apart. refl };
      apart = λ number other x off there r isin. refl;
      same_tables = refl;
      tops = λ number. refl;
      name_passed = λ none. calm e.key;
      name_stays = λ some. refl;
      same_marks = refl;
      same_encoding = refl;
      passed = record { calm = λ index mark r has named isin. calm r; stays = λ index mark has below. refl };
      bounded = record {
        used = (let named = count_all (is_passed 0 None) from_first (marks m e.value).named in
            let vacant = count_all (is_passed 0 None) from_first (marks m e.value).vacant in
            omega (arith, counted, named, vacant));
        within = omega (arith, fits);
        on = tt;
      };
    }

    -- where no block wants to move, all blocks of the walk's item are passed from its place on
    here_passes : PassesElement refs_of marks tables encoding m m heap bases bases walk.database walk.item walk.mark room passed
    here_passes = subst (λ o. PassesElement refs_of marks tables encoding m m heap bases bases walk.database walk.item o room passed) (sym start) key_passes

    -- where no block wants to move, a pass that is swept up to a key is swept up to the next item number
    pub calm_swept : IsSwept (refs_of m) (marks m) bases heap walk → IsSwept (refs_of m) (marks m) bases heap next
    calm_swept s = subst (IsSwept (refs_of m) (marks m) bases heap) is_behind
        (swept_over refs_of marks tables encoding refs_own marked m m bases bases heap heap walk room passed here_passes (calmer_same heap) s refl)

    -- where no block wants to move, going past a key is one leg of the walk, with a unit for the key's own block
    pub calm_leg : Leg (shapes (marks m) bases) walk (units + 1) next
    calm_leg = subst (Leg (shapes (marks m) bases) walk (units + 1)) is_behind (leg_inside refs_of marks tables encoding refs_own marked m m bases bases heap heap walk room passed here_passes)

module _ {V : Type 0} (refs_of : V → List BlockRef) (marks : V → Marks) where
  -- ---- where all databases are passed, all blocks are

  -- a reference that is owned by a list of items is among those of one of its elements
  table_in : (r : BlockRef) (items : List (Option (Element V))) → 0 < times r (flat_map (own_of refs_of) items) → (at : ℕ) × (e : Element V) × (at_item items at ≡ Some e)
      × IsIn r (e.key ∷ refs_of e.value)
  table_in r [] h = absurd (omega (arith, h))
  table_in r (None ∷ items) h = let rest = table_in r items h in (suc rest.0, rest.1, rest.2, rest.3)
  table_in r (Some e ∷ items) h = elim (cases_in r (e.key ∷ refs_of e.value)) [
    | inr isin ↦ (0, e, refl, isin)
    | inl out ↦ (let rest = table_in r items (omega (arith, h, out, times-append r (e.key ∷ refs_of e.value) (flat_map (own_of refs_of) items))) in (suc rest.0, rest.1, rest.2, rest.3))
  ]

  -- the references that one database owns
  abbrev base_refs : Base V → List BlockRef
  base_refs base = refs refs_of base.keys

  -- a reference that is owned by a list of databases is owned by one of them
  bases_in : (r : BlockRef) (list : List (Base V)) → 0 < times r (flat_map base_refs list) → (number : ℕ) × (number < length list) × (0 < times r (base_refs (get_or list number (no_base 0))))
  bases_in r [] h = absurd (omega (arith, h))
  bases_in r (b ∷ list) h = elim (cases_in r (base_refs b)) [
    | inr isin ↦ (0, omega arith, isin)
    | inl out ↦
        (let rest = bases_in r list (omega (arith, h, out, times-append r (base_refs b) (flat_map base_refs list))) in
        (suc rest.0, omega (arith, rest.1), rest.2))
  ]

  -- a walk that stands behind the last database has passed each live block
  pub all_passed : (bases : Bases V) (blocks : Blocks) (walk : Walk) → ((r : BlockRef) → times r (owned refs_of bases) ≡ live blocks r) → length bases.bases ≡ 16 → walk.database ≡ 16
      → (r : BlockRef) → IsSome (blocks r) → HasPassed refs_of marks bases walk r
  all_passed bases blocks walk owns sixteen ends r is =
      let own : 0 < times r (owned refs_of bases) = omega (arith, owns r, live_some blocks r is) in
      let base = bases_in r bases.bases own in
      let there = table_in r (table_at bases base.0).items base.2 in
      of_database base.0 there.0 there.1 (omega (arith, base.1, sixteen, ends)) there.2 there.3

-- ---- ways

-- the same leg where the item numbers and the marks are as they were
pub leg_same : {V : Type 0} (was now : V → Marks) (old mid : Bases V) (from to : Walk) (units : ℕ) → SameShapes was now old mid → SameTops old mid → Leg (shapes now mid) from units to
    → Leg (shapes was old) from units to
leg_same was now old mid from to units same tops (vacant none low one' is) = vacant (sym (same from.database from.item) ∙ none) (omega (arith, low, tops from.database)) one' is
leg_same was now old mid from to units same tops (ended over one' is) = ended (omega (arith, over, tops from.database)) one' is
leg_same was now old mid from to units same tops (inside all next has lt few is) = inside all next (sym (same from.database from.item) ∙ has) lt few is

-- what is told of the values stays over two moves
pub shapes_then : {V A : Type 0} (x y z : V → A) (a b c : Bases V) → SameShapes x y a b → SameShapes y z b c → SameShapes x z a c
shapes_then x y z a b c p q number at = q number at ∙ p number at

-- no element stands from its table's top on
pub none_above : {V : Type 0} (t u : Table V) (top from : ℕ) → t ≡ u → ((at : ℕ) → IsSome (item t at) → at < top) → top ≤ from → (at : ℕ) → from ≤ at → item u at ≡ None
none_above {V} t u top from is above over at more = subst (λ (x : Table V). item x at ≡ None) is (none (item t at) (λ some. omega (arith, above at some, over, more)))
  where
    none : (o : Option (Element V)) → (IsSome o → ⊥) → o ≡ None
    none None h = refl
    none (Some e) h = absurd (h refl)

module _ {V : Type 0} {IsSound : Limits → ℕ → Blocks → V → Type 0} (refs_of : Blocks → V → List BlockRef) (value_of : Blocks → V → Value) (own : ReadsOwn refs_of value_of IsSound) where
  -- nothing moved yet
  pub relocates_none : (bases : Bases V) (m : Blocks) → IsIntact refs_of IsSound bases m [] → Relocates refs_of value_of IsSound bases bases m m
  relocates_none bases m intact = record {
    means = λ number. refl;
    arranged = intact.arranged;
    changes = changes_same m (owned (refs_of m) bases) (λ r. omega (arith, intact.owned r));
    settings = (preserves_none refs_of value_of own m bases bases intact.arranged refl).settings;
    keys = λ number. refl;
    deadlines = λ number. refl;
    cursors = λ number. refl;
  }

-- ---- several legs

-- a way and another from where it ends are one way, with the units of both
pub way_then : (shapes : Shapes) (first mid last : Walk) (some more : ℕ) → Way shapes first some mid → Way shapes mid more last → Way shapes first (some + more) last
way_then shapes first mid _ some _ way here = subst (λ n. Way shapes first n mid) (omega arith) way
way_then shapes first mid last some _ way (further sum units at last' rest leg) =
    subst (λ n. Way shapes first n last) (omega arith) (further (some + sum) units at last (way_then shapes first mid at some sum way rest) leg)

-- a way is the same where the item numbers and the marks of the values are as they were
pub way_same : {V : Type 0} (was now : V → Marks) (old mid : Bases V) (first last : Walk) (units : ℕ) → SameShapes was now old mid → SameTops old mid
    → Way (shapes now mid) first units last → Way (shapes was old) first units last
way_same was now old mid first _ _ same tops here = here
way_same was now old mid first _ _ same tops (further sum units at last way leg) =
    further sum units at last (way_same was now old mid first at sum same tops way) (leg_same was now old mid at last units same tops leg)

-- one leg alone
pub way_of : (shapes : Shapes) (first last : Walk) (units : ℕ) → Leg shapes first units last → Way shapes first units last
way_of shapes first last units leg = subst (λ n. Way shapes first n last) (omega arith) (further 0 units first last here leg)

-- ---- a walk never comes back

-- of three places inside an item in order the last isn't before the first
on_then : (a b c : Option ℕ) → IsOn a b → IsOn b c → IsOn a c
on_then None b c p q = tt
on_then (Some x) None c p q = absurd p
on_then (Some x) (Some y) None p q = absurd q
on_then (Some x) (Some y) (Some z) p q = omega (arith, p, q)

-- no place inside an item is before itself
on_same : (a : Option ℕ) → IsOn a a
on_same None = tt
on_same (Some x) = omega arith

-- no place of a walk is before itself
forward_same : (walk : Walk) → IsForward walk walk
forward_same walk = inr (refl, inr (refl, on_same walk.mark))

-- of three places of a walk in order the last isn't before the first
forward_then : (a b c : Walk) → IsForward a b → IsForward b c → IsForward a c
forward_then a b c (inl p) (inl q) = inl (omega (arith, p, q))
forward_then a b c (inl p) (inr q) = inl (omega (arith, p, q.0))
forward_then a b c (inr p) (inl q) = inl (omega (arith, p.0, q))
forward_then a b c (inr p) (inr q) = inr (p.0 ∙ q.0, items p.1 q.1)
  where
    items : (a.item < b.item) ⊎ ((a.item ≡ b.item) × IsOn a.mark b.mark) → (b.item < c.item) ⊎ ((b.item ≡ c.item) × IsOn b.mark c.mark) → (a.item < c.item) ⊎ ((a.item ≡ c.item) × IsOn a.mark c.mark)
    items (inl x) (inl y) = inl (omega (arith, x, y))
    items (inl x) (inr y) = inl (omega (arith, x, y.0))
    items (inr x) (inl y) = inl (omega (arith, x.0, y))
    items (inr x) (inr y) = inr (x.0 ∙ y.0, on_then a.mark b.mark c.mark x.1 y.1)

-- a leg doesn't end before the place where it begins
leg_forward : (shapes : Shapes) (from to : Walk) (units : ℕ) → Leg shapes from units to → IsForward from to
leg_forward shapes from to units (vacant none low one' is) = subst (IsForward from) (sym is) (inr (refl, inl (omega arith)))
leg_forward shapes from to units (ended over one' is) = subst (IsForward from) (sym is) (inl (omega arith))
leg_forward shapes from to units (inside all next has lt few is) = subst (IsForward from) (sym is) (by_next next lt)
  where
    by_mark : (o : Option ℕ) (n : ℕ) → unwrap_or o 0 < n → IsOn o (Some n)
    by_mark None n less = tt
    by_mark (Some x) n less = omega (arith, less)

    by_next : (o : Option ℕ) → IfSome o (λ mark. unwrap_or from.mark 0 < mark) → IsForward from (behind from o)
    by_next None less = inr (refl, inl (omega arith))
    by_next (Some n) less = inr (refl, inr (refl, by_mark from.mark n less))

-- a way doesn't end before the place where it begins
pub way_forward : (shapes : Shapes) (first last : Walk) (units : ℕ) → Way shapes first units last → IsForward first last
way_forward shapes first _ _ here = forward_same first
way_forward shapes first _ _ (further sum units mid last way leg) = forward_then first mid last (way_forward shapes first mid sum way) (leg_forward shapes mid last units leg)
