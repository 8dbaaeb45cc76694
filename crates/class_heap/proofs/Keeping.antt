-- The marks of a class: how many slabs are kept, and which.
use Rattle.std.specs.Prelude.{◌≡◌, ◌≢◌, ℕ, zero, suc, ◌+◌, ◌-◌, ◌*◌, ◌/◌, ◌<◌, ◌≤◌, ◌==◌, Bool, true, false, ◌&&◌, ◌||◌, not, nat_lt, List, [], ◌∷◌, ◌++◌, take, drop, length, sum_by}
use Rattle.std.specs.Prelude.{count_by, slice_set, slice_index_or, Option, Some, None, refl, ◌⊎◌}
use Rattle.std.proofs.Common.{arith, cond, ap, ◌∙◌, sym, subst, inl, inr, get_or, get_or-set_same, get_or-set_other, length-set}
use Rattle.std.proofs.lemmas.Grind.{common_steps}
use Rattle.std.proofs.lemmas.Bool.{cases_eq, cases_lt, cases_Bool, eqb-true}
use Rattle.std.proofs.lemmas.Bool.Decides.{nat_tests}
use Rattle.std.proofs.lemmas.List.{map-set, length-map}
use Rattle.std.proofs.lemmas.List.Sums.{sum_by-cons}
use Rattle.std.specs.Int.{div_ceil}
use Rattle.blocks.specs.Slabs.{SlabUse, per_slab, is_of, is_kept, used_in, waiting_in, spare_in, unmarked, IsFuller}
use Rattle.blocks.proofs.Sums.{count_cons}
use Rattle.class_heap.specs.declared.entry.Entry.{Entry}
use Rattle.class_heap.specs.declared.entry.Entry.TheVariants.{Vacant}
use Rattle.class_heap.specs.Entries.{use_in, entry_at, block_in}
use Rattle.class_heap.specs.Marks.{holds_at_least, marked, equal_after, all_marked, uses, needed_in, IsUnmarked, IsMarked, IsMarking}
use Rattle.class_heap.specs.Classes.{slots_bounds}
use Rattle.class_heap.specs.Laws.{slab_read, fits_in}

-- ---- one mark after another

-- after one slab was marked, marking those behind it comes to what marking from it on would have
pub marked_step : (class least equal : ℕ) (us : List (Option SlabUse)) (i : ℕ) → i < length us
    → take (suc i) (slice_set us i (marked class least equal (get_or us i None)))
    ++ all_marked class least (equal_after class least equal (get_or us i None)) (drop (suc i) (slice_set us i (marked class least equal (get_or us i None)))) ≡ take i us
    ++ all_marked class least equal (drop i us)
marked_step class least equal [] i lt = absurd (omega arith)
marked_step class least equal (x ∷ rest) zero lt = refl
marked_step class least equal (x ∷ rest) (suc i) lt = ap (λ l. x ∷ l) (marked_step class least equal rest i (omega arith))

-- the same over the entries
pub keep_step : (class least equal left : ℕ) (entries : List Entry) (i : ℕ) (e : Entry) → i < length entries → use_in e ≡ marked class least equal (use_in (entry_at entries i))
    → left ≡ equal_after class least equal (use_in (entry_at entries i))
    → take (i + 1) (uses (slice_set entries i e)) ++ all_marked class least left (drop (i + 1) (uses (slice_set entries i e))) ≡ take i (uses entries)
    ++ all_marked class least equal (drop i (uses entries))
keep_step class least equal left entries i e lt is after =
    let us = uses entries in let r = sym (slab_read true entries i) in
    let set : uses (slice_set entries i e) ≡ slice_set us i (marked class least equal (get_or us i None)) = map-set use_in entries i e ∙ ap (slice_set us i) (is ∙ ap (marked class least equal) r) in
    ap (λ n. take n (uses (slice_set entries i e)) ++ all_marked class least left (drop n (uses (slice_set entries i e)))) (let q : i + 1 ≡ suc i = omega arith in q)
    ∙ (ap (λ vs. take (suc i) vs ++ all_marked class least left (drop (suc i) vs)) set
    ∙
    (ap
    (λ n. take (suc i) (slice_set us i (marked class least equal (get_or us i None)))
    ++ all_marked class least n (drop (suc i) (slice_set us i (marked class least equal (get_or us i None))))) (after ∙ ap (equal_after class least equal) r)
    ∙ marked_step class least equal us i (omega (arith, lt, length-map entries use_in))))

-- an entry put in place of one with the same blocks leaves the blocks of every number
pub block_step : (entries : List Entry) (i : ℕ) (e : Entry) → i < length entries → ((slot : ℕ) → block_in e slot ≡ block_in (entry_at entries i) slot) → (n slot : ℕ)
    → block_in (entry_at (slice_set entries i e) n) slot ≡ block_in (entry_at entries n) slot
block_step entries i e lt same n slot = elim (cases_eq n i) [
  | inl here ↦ ap (λ m. block_in (entry_at (slice_set entries i e) m) slot) here
      ∙ (ap (λ x. block_in x slot) (get_or-set_same entries i e Vacant lt) ∙ (same slot ∙ ap (λ m. block_in (entry_at entries m) slot) (sym here)))
  | inr other ↦ ap (λ x. block_in x slot) (get_or-set_other entries i n e Vacant other)
]

module _ (class least : ℕ) where
  -- marking changes nothing of a slab but its mark
  same_one : (equal : ℕ) (o : Option SlabUse) → unmarked (marked class least equal o) ≡ unmarked o
  same_one equal None = refl
  same_one equal (Some s) = by_test ((s.class == class) && (nat_lt least s.used || ((s.used == least) && nat_lt 0 equal)))
    where
      by_test : (t : Bool) → unmarked (cond t (Some (record { class = s.class; used = s.used; kept = true })) (Some s)) ≡ unmarked (Some s)
      by_test true = refl
      by_test false = refl

  -- marking the list changes nothing of the slab at any number but its mark
  pub same_at : (us : List (Option SlabUse)) (equal n : ℕ) → unmarked (get_or (all_marked class least equal us) n None) ≡ unmarked (get_or us n None)
  same_at [] equal n = refl
  same_at (x ∷ rest) equal zero = same_one equal x
  same_at (x ∷ rest) equal (suc n) = same_at rest (equal_after class least equal x) n

  -- marking leaves a slab of another class as it is
  other_one : (equal : ℕ) (o : Option SlabUse) → is_of class o ≡ false → marked class least equal o ≡ o
  other_one equal None h = refl
  other_one equal (Some s) h = ap (λ t. cond (t && (nat_lt least s.used || ((s.used == least) && nat_lt 0 equal))) (Some (record { class = s.class; used = s.used; kept = true })) (Some s)) h

  -- marking the list leaves the slab at any number as it is where it is of another class
  pub others_at : (us : List (Option SlabUse)) (equal n : ℕ) → is_of class (get_or us n None) ≡ false → get_or (all_marked class least equal us) n None ≡ get_or us n None
  others_at [] equal n h = refl
  others_at (x ∷ rest) equal zero h = other_one equal x h
  others_at (x ∷ rest) equal (suc n) h = others_at rest (equal_after class least equal x) n h

  -- a slab of the class with exactly so many blocks
  abbrev pub exactly : Option SlabUse → Bool
  exactly None = false
  exactly (Some s) = (s.class == class) && (s.used == least)

  -- 1 where the test holds, else 0
  abbrev one_if : Bool → ℕ
  one_if b = cond b 1 0

  -- a slab with at least so many blocks has more, or exactly so many
  split_one : (o : Option SlabUse) → one_if (holds_at_least class least o) ≡ one_if (holds_at_least class (least + 1) o) + one_if (exactly o)
  split_one None = refl
  split_one (Some s) = grind (arith, common_steps)

  -- the slabs with at least so many blocks are those with more and those with exactly so many
  pub split : (us : List (Option SlabUse)) → count_by (holds_at_least class least) us ≡ count_by (holds_at_least class (least + 1)) us + count_by exactly us
  split [] = refl
  split (x ∷ rest) = omega (arith, count_cons (holds_at_least class least) x rest, count_cons (holds_at_least class (least + 1)) x rest, count_cons exactly x rest, split_one x, split rest)

  -- no slab of the class is kept
  abbrev Unkept : List (Option SlabUse) → Type 0
  Unkept us = (n : ℕ) (s : SlabUse) → get_or us n None ≡ Some s → s.class ≡ class → s.kept ≡ false

  -- one slab is kept where it is above, or with exactly so many while some are to be kept
  kept_one : (equal : ℕ) (o : Option SlabUse) → ((s : SlabUse) → o ≡ Some s → s.class ≡ class → s.kept ≡ false)
      → one_if (is_kept class (marked class least equal o)) + equal_after class least equal o ≡ one_if (holds_at_least class (least + 1) o) + cond (exactly o && not (nat_lt 0 equal))
      (equal - 1) equal
  kept_one equal None u = refl
  kept_one equal (Some s) u = elim (cases_eq s.class class) [
    | inl same ↦ (let k = u s refl same in grind (arith, common_steps, same, k))
    | inr other ↦ grind (arith, common_steps, other)
  ]

  -- as many slabs are kept as have more blocks than the limit, and as many more as are to be kept of those at it
  pub kept_count : (us : List (Option SlabUse)) (equal : ℕ) → Unkept us → equal ≤ count_by exactly us
      → count_by (is_kept class) (all_marked class least equal us) ≡ count_by (holds_at_least class (least + 1)) us + equal
  kept_count [] equal u le = omega (arith, le)
  kept_count (x ∷ rest) equal u le =
      let k = kept_one equal x (u 0) in let a = after_is x in let le' = after x in
      let r = kept_count rest (equal_after class least equal x) (λ n. u (suc n)) le' in
      omega (
        arith,
        count_cons (is_kept class) (marked class least equal x) (all_marked class least (equal_after class least equal x) rest),
        count_cons (holds_at_least class (least + 1)) x
            rest,
        r,
        k,
        none x,
      )
    where
      after_is : (o : Option SlabUse) → equal_after class least equal o ≡ cond (exactly o) (equal - 1) equal
      after_is None = refl
      after_is (Some s) = refl

      by_exact : (t : Bool) (count : ℕ) → equal ≤ one_if t + count → cond t (equal - 1) equal ≤ count
      by_exact true count h = omega (arith, h)
      by_exact false count h = omega (arith, h)

      after : (o : Option SlabUse) → equal_after class least equal x ≤ count_by exactly rest
      after o = subst (λ n. n ≤ count_by exactly rest) (sym (after_is x)) (by_exact (exactly x) (count_by exactly rest) (omega (arith, le, count_cons exactly x rest)))

      none : (o : Option SlabUse) → cond (exactly o && not (nat_lt 0 equal)) (equal - 1) equal ≡ equal
      none o = by_test (exactly o) (cases_lt 0 equal)
        where
          by_test : (t : Bool) → (0 < equal) ⊎ (equal ≤ 0) → cond (t && not (nat_lt 0 equal)) (equal - 1) equal ≡ equal
          by_test true (inl more) = grind (arith, nat_tests, more)
          by_test true (inr zero') = grind (arith, nat_tests, zero')
          by_test false q = refl

  -- ---- which slabs are kept

  -- a kept slab of the class has more blocks, or as many while some of these are to be kept
  kept_parts : (equal : ℕ) (o : Option SlabUse) (s : SlabUse) → ((t : SlabUse) → o ≡ Some t → t.class ≡ class → t.kept ≡ false) → marked class least equal o ≡ Some s → s.class ≡ class
      → s.kept ≡ true → (least < s.used) ⊎ ((s.used ≡ least) × (0 < equal))
  kept_parts equal None s u is same kept = cc
  kept_parts equal (Some t) s u is same kept = by_test (cases_lt least t.used) (cases_eq t.used least) (cases_lt 0 equal)
    where
      unmoved : cond ((t.class == class) && (nat_lt least t.used || ((t.used == least) && nat_lt 0 equal))) (Some (record { class = t.class; used = t.used; kept = true })) (Some t) ≡ Some
          t → (least < s.used) ⊎ ((s.used ≡ least) × (0 < equal))
      unmoved e = absurd (no (let q : t ≡ s = (let r = sym e ∙ is in cc) in u t refl (ap (λ x. x.class) q ∙ same)) (let q : t ≡ s = (let r = sym e ∙ is in cc) in ap (λ x. x.kept) q ∙ kept))
        where
          no : t.kept ≡ false → t.kept ≡ true → ⊥
          no f k = (let r : true ≡ false = sym k ∙ f in cc)

      one_used : (b : Bool) → cond b (Some (record { class = t.class; used = t.used; kept = true })) (Some t) ≡ Some s → s.used ≡ t.used
      one_used true e = (let q : record { class = t.class; used = t.used; kept = true } ≡ s = cc in ap (λ x. x.used) (sym q))
      one_used false e = (let q : t ≡ s = cc in ap (λ x. x.used) (sym q))

      used : s.used ≡ t.used
      used = one_used _ is

      by_test : (least < t.used) ⊎ (t.used ≤ least) → (t.used ≡ least) ⊎ (t.used ≢ least) → (0 < equal) ⊎ (equal ≤ 0) → (least < s.used) ⊎ ((s.used ≡ least) × (0 < equal))
      by_test (inl above) e q = inl (omega (arith, above, used))
      by_test (inr le) (inl e) (inl some) = inr (used ∙ e, some)
      by_test (inr le) (inl e) (inr none) = unmoved (grind (arith, nat_tests, e, none))
      by_test (inr le) (inr ne) q = unmoved (grind (arith, nat_tests, le, ne))

  -- any other slab of the class has no more, and none as many while some of these are to be kept
  unkept_parts : (equal : ℕ) (o : Option SlabUse) (s : SlabUse) → marked class least equal o ≡ Some s → s.class ≡ class → s.kept ≡ false → (s.used ≤ least) × (s.used ≡ least → equal ≡ 0)
  unkept_parts equal None s is same kept = cc
  unkept_parts equal (Some t) s is same kept = by_test (cases_lt least t.used) (cases_eq t.used least) (cases_lt 0 equal)
    where
      one_used : (b : Bool) → cond b (Some (record { class = t.class; used = t.used; kept = true })) (Some t) ≡ Some s → (s.used ≡ t.used) × (s.class ≡ t.class) × (b ≡ false)
      one_used true e = absurd (let q : record { class = t.class; used = t.used; kept = true } ≡ s = cc in let k : true ≡ false = ap (λ x. x.kept) q ∙ kept in no k)
        where
          no : true ≡ false → ⊥
          no h = cc
      one_used false e = (let q : t ≡ s = cc in (ap (λ x. x.used) (sym q), ap (λ x. x.class) (sym q), refl))

      parts : (s.used ≡ t.used) × (s.class ≡ t.class) × (((t.class == class) && (nat_lt least t.used || ((t.used == least) && nat_lt 0 equal))) ≡ false)
      parts = one_used _ is

      by_test : (least < t.used) ⊎ (t.used ≤ least) → (t.used ≡ least) ⊎ (t.used ≢ least) → (0 < equal) ⊎ (equal ≤ 0) → (s.used ≤ least) × (s.used ≡ least → equal ≡ 0)
      by_test (inl above) e q = absurd (let p = parts in let c = sym p.1 ∙ same in let t' = p.2 in grind (arith, nat_tests, above, c, t'))
      by_test (inr le) (inl e) (inl some) = absurd (let p = parts in let c = sym p.1 ∙ same in let t' = p.2 in grind (arith, nat_tests, e, some, c, t'))
      by_test (inr le) (inl e) (inr none) = (let p = parts in (omega (arith, p.0, le), λ q. omega (arith, none)))
      by_test (inr le) (inr ne) q = (let p = parts in (omega (arith, p.0, le), λ q. absurd (ne (sym p.0 ∙ q))))

  -- a kept slab of the class has more blocks than the limit, or as many while some of these are to be kept
  pub kept_at : (us : List (Option SlabUse)) (equal n : ℕ) (s : SlabUse) → Unkept us → get_or (all_marked class least equal us) n None ≡ Some s → s.class ≡ class → s.kept ≡ true
      → (least < s.used) ⊎ ((s.used ≡ least) × (0 < equal))
  kept_at [] equal n s u is same kept = cc
  kept_at (x ∷ rest) equal zero s u is same kept = kept_parts equal x s (u 0) is same kept
  kept_at (x ∷ rest) equal (suc n) s u is same kept = elim (kept_at rest (equal_after class least equal x) n s (λ m. u (suc m)) is same kept) [
    | inl above ↦ inl above
    | inr p ↦ inr (p.0, (let a = fewer x in let q = p.1 in omega (arith, a, q)))
  ]
    where
      fewer : (o : Option SlabUse) → equal_after class least equal o ≤ equal
      fewer None = omega arith
      fewer (Some t) = by_test ((t.class == class) && (t.used == least))
        where
          by_test : (b : Bool) → cond b (equal - 1) equal ≤ equal
          by_test true = omega arith
          by_test false = omega arith

  -- a slab of the class that isn't kept has no more blocks than the limit
  pub unkept_at : (us : List (Option SlabUse)) (equal n : ℕ) (s : SlabUse) → get_or (all_marked class least equal us) n None ≡ Some s → s.class ≡ class → s.kept ≡ false → s.used ≤ least
  unkept_at [] equal n s is same kept = cc
  unkept_at (x ∷ rest) equal zero s is same kept = (unkept_parts equal x s is same kept).0
  unkept_at (x ∷ rest) equal (suc n) s is same kept = unkept_at rest (equal_after class least equal x) n s is same kept

  -- a kept slab of the class is fuller than any that isn't, or as full with a lower number
  pub fullest_at : (us : List (Option SlabUse)) (equal m n : ℕ) (s t : SlabUse) → Unkept us → get_or (all_marked class least equal us) m None ≡ Some s
      → get_or (all_marked class least equal us) n None ≡ Some t → s.class ≡ class → t.class ≡ class → s.kept ≡ true → t.kept ≡ false → IsFuller m s n t
  fullest_at [] equal m n s t u at_m at_n c_m c_n kept unkept = cc
  fullest_at (x ∷ rest) equal zero zero s t u at_m at_n c_m c_n kept unkept = absurd (no (let q : s ≡ t = (let r = sym at_m ∙ at_n in cc) in sym kept ∙ (ap (λ y. y.kept) q ∙ unkept)))
    where
      no : true ≡ false → ⊥
      no h = cc
  fullest_at (x ∷ rest) equal zero (suc n) s t u at_m at_n c_m c_n kept unkept =
      let a = kept_at (x ∷ rest) equal 0 s u at_m c_m kept in let b = unkept_at (x ∷ rest) equal (suc n) t at_n c_n unkept in
      elim a [
        | inl above ↦ inl (omega (arith, above, b))
        | inr p ↦ elim (cases_eq t.used least) [
          | inl e ↦ inr (e ∙ sym p.0, omega arith)
          | inr ne ↦ inl (let q = p.0 in omega (arith, b, ne, q))
        ]
      ]
  fullest_at (x ∷ rest) equal (suc m) zero s t u at_m at_n c_m c_n kept unkept =
      let a = kept_at (x ∷ rest) equal (suc m) s u at_m c_m kept in let b = unkept_parts equal x t at_n c_n unkept in
      elim a [
        | inl above ↦ inl (let le = b.0 in omega (arith, above, le))
        | inr p ↦ elim (cases_eq t.used least) [
          | inl e ↦ absurd (let z = b.1 e in let q = p.1 in omega (arith, z, q))
          | inr ne ↦ inl (let q = p.0 in let le = b.0 in omega (arith, le, ne, q))
        ]
      ]
  fullest_at (x ∷ rest) equal (suc m) (suc n) s t u at_m at_n c_m c_n kept unkept = elim (fullest_at rest (equal_after class least equal x) m n s t (λ k. u (suc k)) at_m at_n c_m c_n kept unkept) [
    | inl more ↦ inl more
    | inr p ↦ inr (p.0, (let q = p.1 in omega (arith, q)))
  ]

-- ---- sums over a class

-- no more blocks than places
abbrev pub AllFit : List (Option SlabUse) → Type 0
AllFit us = (n : ℕ) (s : SlabUse) → get_or us n None ≡ Some s → s.used ≤ per_slab s.class

-- no slab of the entries has more blocks than places
pub uses_fit : (entries : List Entry) → AllFit (uses entries)
uses_fit entries n s is = (fits_in (entry_at entries n) s (sym (slab_read true entries n) ∙ is)).0

-- of one slab: its waiting blocks and its places while kept are its blocks and its free places while kept
balance_one : (class : ℕ) (o : Option SlabUse) → ((s : SlabUse) → o ≡ Some s → s.used ≤ per_slab s.class)
    → waiting_in class o + cond (is_kept class o) (per_slab class) 0 ≡ used_in class o + spare_in class o
balance_one class None f = refl
balance_one class (Some s) f = grind (arith, common_steps, f s refl)

-- the places of so many slabs, and of one more where the test holds, as one product
times_one : (t : Bool) (k p : ℕ) → cond t p 0 + k * p ≡ (cond t 1 0 + k) * p
times_one true k p = grind arith
times_one false k p = omega arith

-- the blocks that wait and the places of the kept slabs are the blocks and the free places
pub balance : (class : ℕ) (us : List (Option SlabUse)) → AllFit us
    → sum_by (waiting_in class) us + count_by (is_kept class) us * per_slab class ≡ sum_by (used_in class) us + sum_by (spare_in class) us
balance class [] f = omega arith
balance class (x ∷ rest) f =
    let b = balance_one class x (f 0) in let r = balance class rest (λ n. f (suc n)) in
    let t = times_one (is_kept class x) (count_by (is_kept class) rest) (per_slab class) in
    rw (count_cons (is_kept class) x rest) (omega (arith, sum_by-cons (waiting_in class) x rest, sum_by-cons (used_in class) x rest, sum_by-cons (spare_in class) x rest, b, r, t))

-- of one slab: it has no more blocks of the class than places, and none where it is of another class
hold_one : (class : ℕ) (o : Option SlabUse) → ((s : SlabUse) → o ≡ Some s → s.used ≤ per_slab s.class) → used_in class o ≤ cond (holds_at_least class 0 o) (per_slab class) 0
hold_one class None f = omega arith
hold_one class (Some s) f = grind (arith, common_steps, f s refl)

-- the slabs of a class have room for its blocks
pub slabs_hold : (class : ℕ) (us : List (Option SlabUse)) → AllFit us → sum_by (used_in class) us ≤ count_by (holds_at_least class 0) us * per_slab class
slabs_hold class [] f = omega arith
slabs_hold class (x ∷ rest) f =
    let h = hold_one class x (f 0) in let r = slabs_hold class rest (λ n. f (suc n)) in let t = times_one (holds_at_least class 0 x) (count_by (holds_at_least class 0) rest) (per_slab class) in
    rw (count_cons (holds_at_least class 0) x rest) (omega (arith, sum_by-cons (used_in class) x rest, h, r, t))

-- where so many slabs have room for all the blocks, the quotient rounded up is no more
pub div_up : (u k p : ℕ) → 0 < p → u ≤ k * p → (u + (p - 1)) / p ≤ k
div_up u k p pos h = grind (arith, h)

-- as many slabs as the quotient rounded up says have room for all the blocks
pub up_enough : (u p : ℕ) → 0 < p → u ≤ (u + (p - 1)) / p * p
up_enough u p pos = grind arith

-- the quotient rounded up
pub ceil_is : (u p : ℕ) → 0 < p → div_ceil u p ≡ (u + (p - 1)) / p
ceil_is u p pos = grind (arith, common_steps, pos)

-- of one slab: it isn't among those with more blocks than places
none_one : (class : ℕ) (o : Option SlabUse) → ((s : SlabUse) → o ≡ Some s → s.used ≤ per_slab s.class) → cond (holds_at_least class (per_slab class + 1) o) 1 zero ≡ zero
none_one class None f = refl
none_one class (Some s) f = grind (arith, common_steps, f s refl)

-- no slab has more blocks than places
pub none_above : (class : ℕ) (us : List (Option SlabUse)) → AllFit us → count_by (holds_at_least class (per_slab class + 1)) us ≡ 0
none_above class [] f = refl
none_above class (x ∷ rest) f = omega (arith, count_cons (holds_at_least class (per_slab class + 1)) x rest, none_one class x (f 0), none_above class rest (λ n. f (suc n)))

-- where no slab of the class is kept, the count of its kept slabs is 0
pub none_kept : (class : ℕ) (us : List (Option SlabUse)) → ((n : ℕ) (s : SlabUse) → get_or us n None ≡ Some s → s.class ≡ class → s.kept ≡ false) → count_by (is_kept class) us ≡ 0
none_kept class [] u = refl
none_kept class (x ∷ rest) u = omega (arith, count_cons (is_kept class) x rest, one x (u 0), none_kept class rest (λ n. u (suc n)))
  where
    one : (o : Option SlabUse) → ((s : SlabUse) → o ≡ Some s → s.class ≡ class → s.kept ≡ false) → cond (is_kept class o) 1 zero ≡ zero
    one None u = refl
    one (Some s) u = elim (cases_eq s.class class) [
      | inl same ↦ (let k = u s refl same in grind (arith, common_steps, k))
      | inr other ↦ grind (arith, common_steps, other)
    ]

-- ---- a marking of one class

-- a slab without its mark has as many blocks of a class
pub used_bare : (class : ℕ) (o : Option SlabUse) → used_in class (unmarked o) ≡ used_in class o
used_bare class None = refl
used_bare class (Some s) = refl

-- a slab without its mark is of the same class
is_of_bare : (class : ℕ) (o : Option SlabUse) → is_of class (unmarked o) ≡ is_of class o
is_of_bare class None = refl
is_of_bare class (Some s) = refl

-- a count of slabs whose parts are the same
pub sum_alike : (f : Option SlabUse → ℕ) → f None ≡ 0 → (xs ys : List (Option SlabUse)) → ((n : ℕ) → f (get_or ys n None) ≡ f (get_or xs n None)) → sum_by f ys ≡ sum_by f xs
sum_alike f none [] [] h = refl
sum_alike f none [] (y ∷ ys) h = omega (arith, sum_by-cons f y ys, none, h 0, sum_alike f none [] ys (λ n. h (suc n)))
sum_alike f none (x ∷ xs) [] h = omega (arith, sum_by-cons f x xs, none, h 0, sum_alike f none xs [] (λ n. h (suc n)))
sum_alike f none (x ∷ xs) (y ∷ ys) h = omega (arith, sum_by-cons f x xs, sum_by-cons f y ys, h 0, sum_alike f none xs ys (λ n. h (suc n)))

-- a count of slabs that their marks don't change
pub bare_same : (old new : List Entry) → ((n : ℕ) → unmarked (use_in (entry_at new n)) ≡ unmarked (use_in (entry_at old n))) → (f : Option SlabUse → ℕ) → f None ≡ 0
    → ((o : Option SlabUse) → f (unmarked o) ≡ f o) → sum_by f (uses new) ≡ sum_by f (uses old)
bare_same old new same f none bare = sum_alike f none (uses old) (uses new)
    (λ n. sym (bare (get_or (uses new) n None)) ∙ (ap f (ap unmarked (slab_read true new n) ∙ (same n ∙ ap unmarked (sym (slab_read true old n)))) ∙ bare (get_or (uses old) n None)))

-- a marking leaves each class as many blocks
pub used_marked : {class : ℕ} (old new : List Entry) → IsMarking class old new → (c : ℕ) → sum_by (used_in c) (uses new) ≡ sum_by (used_in c) (uses old)
used_marked old new m c = bare_same old new m.same (used_in c) refl (used_bare c)

-- entries that stay are a marking of any class
pub marking_same : (class : ℕ) (entries : List Entry) → IsMarking class entries entries
marking_same class entries = record { long = refl; blocks = λ n slot. refl; same = λ n. refl; others = λ n h. refl }

-- entries with the same blocks, and with the slabs of a marked list, are a marking of the class
pub marking_made : (class least equal : ℕ) (old new : List Entry) → length new ≡ length old → ((n slot : ℕ) → block_in (entry_at new n) slot ≡ block_in (entry_at old n) slot)
    → uses new ≡ all_marked class least equal (uses old) → IsMarking class old new
marking_made class least equal old new long blocks is = record {
  long = long;
  blocks = blocks;
  same = λ n. ap unmarked (read n) ∙ (same_at class least (uses old) equal n ∙ ap unmarked (slab_read true old n));
  others = λ n h. read n ∙ (others_at class least (uses old) equal n (ap (is_of class) (slab_read true old n) ∙ h) ∙ slab_read true old n);
}
  where
    read : (n : ℕ) → use_in (entry_at new n) ≡ get_or (all_marked class least equal (uses old)) n None
    read n = sym (slab_read true new n) ∙ ap (λ us. get_or us n None) is

-- where no entry has a kept slab of the class, the list of the slabs has none
bare_unkept : (class : ℕ) (entries : List Entry) → IsUnmarked class entries → (n : ℕ) (s : SlabUse) → get_or (uses entries) n None ≡ Some s → s.class ≡ class → s.kept ≡ false
bare_unkept class entries u n s is = u n s (sym (slab_read true entries n) ∙ is)

-- as many as needed are kept, and the fullest
pub marked_made : (class least needed above : ℕ) (old new : List Entry) → IsUnmarked class old → needed ≤ count_by (holds_at_least class least) (uses old)
    → above ≡ count_by (holds_at_least class (least + 1)) (uses old) → above ≤ needed → uses new ≡ all_marked class least (needed - above) (uses old) → IsMarked class needed new
marked_made class least needed above old new u enough is le made = record {
  kept = ap (count_by (is_kept class)) made ∙ omega
      (arith, kept_count class least (uses old) (needed - above) (bare_unkept class old u) (omega (arith, split class least (uses old), enough, is, le)), is, le);
  fullest = λ m n s t at_m at_n c_m c_n kept unkept. fullest_at class least (uses old) (needed - above) m n s t (bare_unkept class old u) (read m s at_m) (read n t at_n) c_m c_n kept unkept;
}
  where
    read : (n : ℕ) (s : SlabUse) → use_in (entry_at new n) ≡ Some s → get_or (all_marked class least (needed - above) (uses old)) n None ≡ Some s
    read n s at' = ap (λ us. get_or us n None) (sym made) ∙ (slab_read true new n ∙ at')

-- a class without a kept slab is marked as one that needs none
pub marked_none : (class : ℕ) (entries : List Entry) → IsUnmarked class entries → IsMarked class 0 entries
marked_none class entries u = record {
  kept = none_kept class (uses entries) (bare_unkept class entries u);
  fullest = λ m n s t at_m at_n c_m c_n kept unkept. absurd (no (sym kept ∙ u m s at_m c_m));
}
  where
    no : true ≡ false → ⊥
    no h = cc

-- what is kept over what is needed is the margin
pub margin_made : (class needed : ℕ) (entries : List Entry) → class < 36 → count_by (is_kept class) (uses entries) ≡ needed → needed ≡ needed_in class entries
    → sum_by (waiting_in class) (uses entries) + (needed * per_slab class - sum_by (used_in class) (uses entries)) ≡ sum_by (spare_in class) (uses entries)
margin_made class needed entries lt kept is =
    let b = balance class (uses entries) (uses_fit entries) in let e = up_enough (sum_by (used_in class) (uses entries)) (per_slab class) (slots_bounds class lt).0 in
    let k : count_by (is_kept class) (uses entries) * per_slab class ≡ needed * per_slab class = ap (λ n. n * per_slab class) kept in
    let q : sum_by (used_in class) (uses entries) ≤ needed * per_slab class = subst (λ n. sum_by (used_in class) (uses entries) ≤ n * per_slab class) (sym is) e in
    omega (arith, b, k, q)

-- a class has at least as many slabs as its blocks need
pub enough_slabs : (class : ℕ) (entries : List Entry) → class < 36 → needed_in class entries ≤ count_by (holds_at_least class 0) (uses entries)
enough_slabs class entries lt = div_up (sum_by (used_in class) (uses entries)) (count_by (holds_at_least class 0) (uses entries)) (per_slab class) (slots_bounds class lt).0
    (slabs_hold class (uses entries) (uses_fit entries))

-- no slab of the entries counts as one with more blocks than places
pub few_slabs : (class : ℕ) (entries : List Entry) → count_by (holds_at_least class (per_slab class + 1)) (uses entries) ≡ 0
few_slabs class entries = none_above class (uses entries) (uses_fit entries)

-- ---- marks of one class beside those of another

-- a slab of one class is none of another
apart_classes : (a b : ℕ) (o : Option SlabUse) → a ≢ b → is_of b o ≡ true → is_of a o ≡ false
apart_classes a b None ne h = refl
apart_classes a b (Some s) ne h = (let e = eqb-true s.class b h in grind (arith, nat_tests, e, ne))

-- a measure that is 0 for slabs of other classes doesn't change with the mark of such a slab
not_of : (f : Option SlabUse → ℕ) (a : ℕ) → ((o : Option SlabUse) → is_of a o ≡ false → f o ≡ 0) → (o p : Option SlabUse) → unmarked p ≡ unmarked o → is_of a o ≡ false → f p ≡ f o
not_of f a zero' o p bare h = zero' p (sym (is_of_bare a p) ∙ (ap (is_of a) bare ∙ (is_of_bare a o ∙ h))) ∙ sym (zero' o h)

-- what counts only slabs of another class stays
beside : {class : ℕ} (old new : List Entry) → IsMarking class old new → (c : ℕ) → c ≢ class → (f : Option SlabUse → ℕ) → f None ≡ 0 → ((o : Option SlabUse) → is_of c o ≡ false → f o ≡ 0)
    → sum_by f (uses new) ≡ sum_by f (uses old)
beside {class = class} old new m c ne f none zero' = sum_alike f none (uses old) (uses new)
    (λ n. ap f (slab_read true new n) ∙ (one n (cases_Bool (is_of class (use_in (entry_at old n)))) ∙ sym (ap f (slab_read true old n))))
  where
    one : (n : ℕ) → (is_of class (use_in (entry_at old n)) ≡ true) ⊎ (is_of class (use_in (entry_at old n)) ≡ false) → f (use_in (entry_at new n)) ≡ f (use_in (entry_at old n))
    one n (inl of_class) = not_of f c zero' (use_in (entry_at old n)) (use_in (entry_at new n)) (m.same n) (apart_classes c class (use_in (entry_at old n)) ne of_class)
    one n (inr other) = ap f (m.others n other)

-- a slab of another class doesn't count as a kept one of this class
kept_other : (c : ℕ) (o : Option SlabUse) → is_of c o ≡ false → cond (is_kept c o) 1 zero ≡ zero
kept_other c None h = refl
kept_other c (Some s) h = ap (λ t. cond (t && s.kept) 1 zero) h

-- a slab of another class has no waiting block of this class
waiting_other : (c : ℕ) (o : Option SlabUse) → is_of c o ≡ false → waiting_in c o ≡ 0
waiting_other c None h = refl
waiting_other c (Some s) h = ap (λ t. cond (t && not s.kept) s.used 0) h

-- a slab of another class has no free place of this class
spare_other : (c : ℕ) (o : Option SlabUse) → is_of c o ≡ false → spare_in c o ≡ 0
spare_other c None h = refl
spare_other c (Some s) h = ap (λ t. cond (t && s.kept) (per_slab c - s.used) 0) h

-- a marking of one class leaves any other class as many waiting blocks
pub waiting_beside : {class : ℕ} (old new : List Entry) → IsMarking class old new → (c : ℕ) → c ≢ class → sum_by (waiting_in c) (uses new) ≡ sum_by (waiting_in c) (uses old)
waiting_beside old new m c ne = beside old new m c ne (waiting_in c) refl (waiting_other c)

-- a marking of one class leaves the kept slabs of any other class as many free places
pub spare_beside : {class : ℕ} (old new : List Entry) → IsMarking class old new → (c : ℕ) → c ≢ class → sum_by (spare_in c) (uses new) ≡ sum_by (spare_in c) (uses old)
spare_beside old new m c ne = beside old new m c ne (spare_in c) refl (spare_other c)

-- a slab of a class that isn't marked is as it was
slab_beside : {class : ℕ} (old new : List Entry) → IsMarking class old new → (n : ℕ) (s : SlabUse) → s.class ≢ class → use_in (entry_at new n) ≡ Some s → use_in (entry_at old n) ≡ Some s
slab_beside {class = class} old new m n s ne is = elim (cases_Bool (is_of class (use_in (entry_at old n)))) [
  | inl of_class ↦ absurd
      (ne
      (let t : is_of class (Some s) ≡ true = sym (ap (is_of class) is)
      ∙ (sym (is_of_bare class (use_in (entry_at new n))) ∙ (ap (is_of class) (m.same n) ∙ (is_of_bare class (use_in (entry_at old n)) ∙ of_class))) in eqb-true s.class class t))
  | inr other ↦ sym (m.others n other) ∙ is
]

-- a class that is marked stays so when another one is marked
pub marked_beside : {class : ℕ} (old new : List Entry) → IsMarking class old new → (c needed : ℕ) → c ≢ class → IsMarked c needed old → IsMarked c needed new
marked_beside {class = class} old new m c needed ne is = record {
  kept = beside old new m c ne (λ o. cond (is_kept c o) 1 0) refl (kept_other c) ∙ is.kept;
  fullest = λ i j s t at_i at_j c_i c_j kept unkept. is.fullest i j s t (slab_beside old new m i s (λ e. ne (sym c_i ∙ e)) at_i) (slab_beside old new m j t (λ e. ne (sym c_j ∙ e)) at_j)
      c_i c_j kept unkept;
}

-- a class without a kept slab stays so when another one is marked
pub unmarked_beside : {class : ℕ} (old new : List Entry) → IsMarking class old new → (c : ℕ) → c ≢ class → IsUnmarked c old → IsUnmarked c new
unmarked_beside old new m c ne u n s at' same = u n s (slab_beside old new m n s (λ e. ne (sym same ∙ e)) at') same

-- the count of needed slabs, as it is computed
pub needed_is : (class used slots needed : ℕ) (entries : List Entry) → class < 36 → used ≡ sum_by (used_in class) (uses entries) → slots ≡ per_slab class → needed ≡ div_ceil used slots
    → needed ≡ needed_in class entries
needed_is class used slots needed entries lt is full ceil = ceil
    ∙
    (ap (λ n. div_ceil n slots) is ∙
    (ap (div_ceil (sum_by (used_in class) (uses entries))) full ∙ ceil_is (sum_by (used_in class) (uses entries)) (per_slab class) (slots_bounds class lt).0))

-- a marking doesn't change how many slabs a class needs
pub needed_marked : {class : ℕ} (old new : List Entry) → IsMarking class old new → (c : ℕ) → needed_in c new ≡ needed_in c old
needed_marked old new m c = ap (λ n. (n + (per_slab c - 1)) / per_slab c) (used_marked old new m c)

-- ---- one class after another

-- the classes below this one are marked, and the others aren't
pub record IsMarkedBelow (class : ℕ) (before entries : List Entry) (margins : List ℕ) : Type 0 where
  pub long : length entries ≡ length before
  pub blocks : (n slot : ℕ) → block_in (entry_at entries n) slot ≡ block_in (entry_at before n) slot
  pub same : (n : ℕ) → unmarked (use_in (entry_at entries n)) ≡ unmarked (use_in (entry_at before n))
  pub marked : (c : ℕ) → c < class → IsMarked c (needed_in c entries) entries
  pub unmarked : (c : ℕ) → class ≤ c → IsUnmarked c entries
  pub classes : length margins ≡ 36
  pub margin : (c : ℕ) → c < class → sum_by (waiting_in c) (uses entries) + slice_index_or margins c 0 ≡ sum_by (spare_in c) (uses entries)

-- where the classes below this one are marked and then this one is, all below the next are
pub marked_more : (class : ℕ) (before entries later : List Entry) (margins : List ℕ) (margin : ℕ) → class < 36 → IsMarkedBelow class before entries margins → IsMarking class entries later
    → IsMarked class (needed_in class later) later → sum_by (waiting_in class) (uses later) + margin ≡ sum_by (spare_in class) (uses later)
    → IsMarkedBelow (class + 1) before later (slice_set margins class margin)
marked_more class before entries later margins margin lt i m is eq = record {
  long = m.long ∙ i.long;
  blocks = λ n slot. m.blocks n slot ∙ i.blocks n slot;
  same = λ n. m.same n ∙ i.same n;
  marked = λ c less. marked' c less (cases_eq c class);
  unmarked = λ c more. unmarked_beside entries later m c (λ e. absurd (omega (arith, e, more))) (i.unmarked c (omega (arith, more)));
  classes = length-set margins class margin ∙ i.classes;
  margin = λ c less. margin' c less (cases_eq c class);
}
  where
    marked' : (c : ℕ) → c < class + 1 → (c ≡ class) ⊎ (c ≢ class) → IsMarked c (needed_in c later) later
    marked' c less (inl same) = subst (λ k. IsMarked k (needed_in k later) later) (sym same) is
    marked' c less (inr other) = subst (λ n. IsMarked c n later) (sym (needed_marked entries later m c))
        (marked_beside entries later m c (needed_in c entries) other (i.marked c (omega (arith, less, other))))

    margin' : (c : ℕ) → c < class + 1 → (c ≡ class) ⊎ (c ≢ class) → sum_by (waiting_in c) (uses later) + slice_index_or (slice_set margins class margin) c 0 ≡ sum_by (spare_in c) (uses later)
    margin' c less (inl same) = subst (λ k. sum_by (waiting_in k) (uses later) + slice_index_or (slice_set margins class margin) k 0 ≡ sum_by (spare_in k) (uses later)) (sym same)
        (ap (λ n. sum_by (waiting_in class) (uses later) + n) (get_or-set_same margins class margin 0 (let f = i.classes in omega (arith, f, lt))) ∙ eq)
    margin' c less (inr other) =
        (let k = i.margin c (omega (arith, less, other)) in omega
        (arith, waiting_beside entries later m c other, spare_beside entries later m c other, get_or-set_other margins class c margin 0 other, k))
