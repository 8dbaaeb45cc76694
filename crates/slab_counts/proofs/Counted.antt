-- The references of a list, counted slab by slab and slot by slot.
use Rattle.std.specs.Prelude.{◌≡◌, ◌≢◌, ◌⊎◌, ℕ, zero, suc, ◌+◌, ◌<◌, ◌≤◌, Bool, true, false, List, [], ◌∷◌, Option, Some, None, IsSome, is_some, sum_by, refl}
use Rattle.std.proofs.Common.{arith, cond, ap, ◌∙◌, sym, subst, inl, inr, get_or}
use Rattle.std.proofs.lemmas.Bool.{cases_eq, cases_Bool, eqb-true, eq-eqb, ne_eqb, cond-true, cond-false, and_from}
use Rattle.std.proofs.lemmas.List.Sums.{sum_by-cons}
use Rattle.blocks.specs.declared.BlockRef.{BlockRef}
use Rattle.blocks.specs.Blocks.{Blocks, ref_eq, times, live, Owns}
use Rattle.blocks.specs.Slabs.{SlabUse, Heap, slab_at, is_of, used_in, used_of, per_slab, blocks_in, IsSoundHeap}
use Rattle.blocks.proofs.Refs.{ref_eq_true, ref_eq_refl}
use Rattle.blocks.proofs.Sums.{count_cons}
use Rattle.slab_counts.specs.Counts.{in_class, count_in, SlabCountLaws}

abbrev one_if : Bool → ℕ
one_if b = cond b 1 0

-- how often the first places of a slab stand in the list
named_in : List BlockRef → ℕ → ℕ → ℕ
named_in refs n zero = 0
named_in refs n (suc k) = named_in refs n k + times (record { slab = n; slot = k }) refs

-- a reference of another slab adds nothing
in_other : (r : BlockRef) (refs : List BlockRef) (n k : ℕ) → r.slab ≢ n → named_in (r ∷ refs) n k ≡ named_in refs n k
unfolding named_in
in_other r refs n zero ne = refl
in_other r refs n (suc k) ne =
    let out : one_if (ref_eq r (record { slab = n; slot = k })) ≡ 0 = by_slab (cases_Bool (ref_eq r (record { slab = n; slot = k }))) in
    omega (arith, in_other r refs n k ne, out)
  where
    by_slab : (ref_eq r (record { slab = n; slot = k }) ≡ true) ⊎ (ref_eq r (record { slab = n; slot = k }) ≡ false)
        → one_if (ref_eq r (record { slab = n; slot = k })) ≡ 0
    by_slab (inl is) = absurd (ne (ap (λ (q : BlockRef). q.slab) (ref_eq_true r (record { slab = n; slot = k }) is)))
    by_slab (inr other) = ap one_if other

-- one of a place behind these adds nothing, and one of these places adds one
in_later : (r : BlockRef) (refs : List BlockRef) (n k : ℕ) → k ≤ r.slot → named_in (r ∷ refs) n k ≡ named_in refs n k
unfolding named_in
in_later r refs n zero h = refl
in_later r refs n (suc k) h =
    let out : one_if (ref_eq r (record { slab = n; slot = k })) ≡ 0 = by_slot (cases_Bool (ref_eq r (record { slab = n; slot = k }))) in
    omega (arith, in_later r refs n k (omega (arith, h)), out)
  where
    by_slot : (ref_eq r (record { slab = n; slot = k }) ≡ true) ⊎ (ref_eq r (record { slab = n; slot = k }) ≡ false)
        → one_if (ref_eq r (record { slab = n; slot = k })) ≡ 0
    by_slot (inl is) = absurd (let same : r.slot ≡ k = ap (λ (q : BlockRef). q.slot) (ref_eq_true r (record { slab = n; slot = k }) is) in omega (arith, h, same))
    by_slot (inr other) = ap one_if other

in_here : (r : BlockRef) (refs : List BlockRef) (n k : ℕ) → r.slab ≡ n → r.slot < k → named_in (r ∷ refs) n k ≡ named_in refs n k + 1
unfolding named_in
in_here r refs n zero e lt = absurd (omega arith)
in_here r refs n (suc k) e lt = elim (cases_eq r.slot k) [
  | inl here ↦
      (let one : one_if (ref_eq r (record { slab = n; slot = k })) ≡ 1 = ap one_if (and_from _ _ (eq-eqb r.slab n e) (eq-eqb r.slot k here)) in
      omega (arith, in_later r refs n k (omega (arith, here)), one))
  | inr there ↦
      (let out : one_if (ref_eq r (record { slab = n; slot = k })) ≡ 0 = by_slot there (cases_Bool (ref_eq r (record { slab = n; slot = k }))) in
      omega (arith, in_here r refs n k e (omega (arith, lt, there)), out))
]
  where
    by_slot : r.slot ≢ k → (ref_eq r (record { slab = n; slot = k }) ≡ true) ⊎ (ref_eq r (record { slab = n; slot = k }) ≡ false)
        → one_if (ref_eq r (record { slab = n; slot = k })) ≡ 0
    by_slot ne (inl is) = absurd (ne (ap (λ (q : BlockRef). q.slot) (ref_eq_true r (record { slab = n; slot = k }) is)))
    by_slot ne (inr other) = ap one_if other

-- nothing stands in no list
in_none : (n k : ℕ) → named_in [] n k ≡ 0
unfolding named_in
in_none n zero = refl
in_none n (suc k) = omega (arith, in_none n k)

-- where each place is named as often as it is live, the live ones are counted
in_live : (blocks : Blocks) (refs : List BlockRef) → Owns refs blocks → (n k : ℕ) → named_in refs n k ≡ blocks_in blocks n k
unfolding named_in blocks_in
in_live blocks refs owns n zero = refl
in_live blocks refs owns n (suc k) = omega (arith, in_live blocks refs owns n k, owns (record { slab = n; slot = k }))

module _ (class : ℕ) where
  -- how often places of a slab of the class stand in the list
  abbrev of_slab : List BlockRef → ℕ → Option SlabUse → ℕ
  of_slab refs n o = cond (is_of class o) (named_in refs n (per_slab class)) 0

  -- the same of the slabs from a number on
  of_slabs : List BlockRef → ℕ → List (Option SlabUse) → ℕ
  of_slabs refs n [] = 0
  of_slabs refs n (o ∷ rest) = of_slab refs n o + of_slabs refs (suc n) rest

  slabs_none : (n : ℕ) (xs : List (Option SlabUse)) → of_slabs [] n xs ≡ 0
  unfolding of_slabs
  slabs_none n [] = refl
  slabs_none n (o ∷ rest) = omega (arith, by_test (is_of class o), slabs_none (suc n) rest)
    where
      by_test : (t : Bool) → cond t (named_in [] n (per_slab class)) 0 ≡ 0
      by_test true = in_none n (per_slab class)
      by_test false = refl

  -- a reference of a slab before these adds nothing
  slabs_before : (r : BlockRef) (refs : List BlockRef) (n : ℕ) (xs : List (Option SlabUse)) → r.slab < n → of_slabs (r ∷ refs) n xs ≡ of_slabs refs n xs
  unfolding of_slabs
  slabs_before r refs n [] lt = refl
  slabs_before r refs n (o ∷ rest) lt =
      let same : of_slab (r ∷ refs) n o ≡ of_slab refs n o = ap (λ many. cond (is_of class o) many 0) (in_other r refs n (per_slab class) (λ e. omega (arith, lt, e))) in
      omega (arith, same, slabs_before r refs (suc n) rest (omega (arith, lt)))

  -- a reference of one of the slabs, in one of its places, adds one where that is of the class
  slabs_one : (r : BlockRef) (refs : List BlockRef) (n i : ℕ) (xs : List (Option SlabUse)) → r.slab ≡ n + i
      → (is_of class (get_or xs i None) ≡ true → r.slot < per_slab class)
      → of_slabs (r ∷ refs) n xs ≡ of_slabs refs n xs + one_if (is_of class (get_or xs i None))
  unfolding of_slabs
  slabs_one r refs n i [] at inside = refl
  slabs_one r refs n zero (o ∷ rest) at inside =
      let here : of_slab (r ∷ refs) n o ≡ of_slab refs n o + one_if (is_of class o) = by_test (is_of class o) inside in
      omega (arith, here, slabs_before r refs (suc n) rest (omega (arith, at)))
    where
      by_test : (t : Bool) → (t ≡ true → r.slot < per_slab class)
          → cond t (named_in (r ∷ refs) n (per_slab class)) 0 ≡ cond t (named_in refs n (per_slab class)) 0 + one_if t
      by_test true within = in_here r refs n (per_slab class) (omega (arith, at)) (within refl)
      by_test false within = refl
  slabs_one r refs n (suc i) (o ∷ rest) at inside =
      let same : of_slab (r ∷ refs) n o ≡ of_slab refs n o = ap (λ many. cond (is_of class o) many 0) (in_other r refs n (per_slab class) (λ e. omega (arith, at, e))) in
      omega (arith, same, slabs_one r refs (suc n) i rest (omega (arith, at)) inside)

  -- a list of references that stand in places of their slabs is counted by these
  slabs_all : (h : Heap) (refs : List BlockRef) → ((r : BlockRef) → 0 < times r refs → in_class h class r ≡ true → r.slot < per_slab class)
      → count_in h class refs ≡ of_slabs refs 0 h.slabs
  slabs_all h [] inside = sym (slabs_none 0 h.slabs)
  slabs_all h (r ∷ refs) inside =
      let mine : one_if (ref_eq r r) ≡ 1 = ap one_if (ref_eq_refl r) in
      let rest : count_in h class refs ≡ of_slabs refs 0 h.slabs = slabs_all h refs (λ q many of. inside q (omega (arith, many)) of) in
      let more : of_slabs (r ∷ refs) 0 h.slabs ≡ of_slabs refs 0 h.slabs + one_if (in_class h class r) =
      slabs_one r refs 0 r.slab h.slabs (omega arith) (inside r (omega (arith, mine))) in
      omega (arith, count_cons (in_class h class) r refs, rest, more)

  -- where the places of each slab stand in the list as often as it counts blocks, the class counts them
  slabs_used : (refs : List BlockRef) (n : ℕ) (xs : List (Option SlabUse))
      → ((i : ℕ) (s : SlabUse) → get_or xs i None ≡ Some s → named_in refs (n + i) (per_slab s.class) ≡ s.used)
      → of_slabs refs n xs ≡ sum_by (used_in class) xs
  unfolding of_slabs
  slabs_used refs n [] counted = refl
  slabs_used refs n (o ∷ rest) counted =
      let here : of_slab refs n o ≡ used_in class o = by_slab o (λ s is. subst (λ m. named_in refs m (per_slab s.class) ≡ s.used) (let e : n + 0 ≡ n = omega arith in e) (counted 0 s is)) in
      omega (
        arith,
        here,
        sum_by-cons (used_in class) o rest,
        slabs_used refs (suc n) rest
            (λ i s is. subst (λ m. named_in refs m (per_slab s.class) ≡ s.used) (let e : n + suc i ≡ suc n + i = omega arith in e) (counted (suc i) s is)),
      )
    where
      by_slab : (p : Option SlabUse) → ((s : SlabUse) → p ≡ Some s → named_in refs n (per_slab s.class) ≡ s.used) → of_slab refs n p ≡ used_in class p
      by_slab None is = refl
      by_slab (Some s) is = elim (cases_eq s.class class) [
        | inl same ↦
            cond-true _ _ _ (eq-eqb s.class class same) ∙ (subst (λ c. named_in refs n (per_slab c) ≡ s.used) same (is s refl) ∙ sym (cond-true _ _ _ (eq-eqb s.class class same)))
        | inr other ↦ cond-false _ _ _ (ne_eqb s.class class other) ∙ sym (cond-false _ _ _ (ne_eqb s.class class other))
      ]

-- a reference that the list names is live
is_live : (blocks : Blocks) (refs : List BlockRef) → Owns refs blocks → (r : BlockRef) → 0 < times r refs → IsSome (blocks r)
is_live blocks refs owns r many = by_block (blocks r) refl
  where
    by_block : (o : Option (List ℕ)) → o ≡ blocks r → IsSome o
    by_block None e = absurd (let none : live blocks r ≡ 0 = ap (λ (p : Option (List ℕ)). one_if (is_some p)) (sym e) in omega (arith, many, owns r, none))
    by_block (Some bytes) e = refl

-- a block of the class stands in one of the places of its slab
stands : (blocks : Blocks) (h : Heap) (class : ℕ) → IsSoundHeap blocks h → (r : BlockRef) → IsSome (blocks r) → in_class h class r ≡ true → r.slot < per_slab class
stands blocks h class sound r some is = by_slab (slab_at h r.slab) refl is
  where
    by_slab : (o : Option SlabUse) → slab_at h r.slab ≡ o → is_of class o ≡ true → r.slot < per_slab class
    by_slab None e of = cc
    by_slab (Some s) e of = subst (λ c. r.slot < per_slab c) (eqb-true s.class class of) (sound.inside r s e some)

pub counted_used : (blocks : Blocks) (h : Heap) (refs : List BlockRef) → IsSoundHeap blocks h → Owns refs blocks → (class : ℕ) → count_in h class refs ≡ used_of h class
counted_used blocks h refs sound owns class =
    slabs_all class h refs (λ r many is. stands blocks h class sound r (is_live blocks refs owns r many) is)
    ∙ slabs_used class refs 0 h.slabs
    (λ i s is. subst (λ n. named_in refs n (per_slab s.class) ≡ s.used) (let e : i ≡ 0 + i = omega arith in e) (in_live blocks refs owns i (per_slab s.class) ∙ sound.counted i s is))

pub laws_hold : SlabCountLaws
laws_hold = record { used = counted_used }
