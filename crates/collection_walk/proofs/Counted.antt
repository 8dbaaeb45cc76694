-- How many item numbers below another a test takes: each is that of an element, or vacant.
use Rattle.std.proofs.Common.{◌≡◌, ℕ, zero, suc, ◌+◌, ◌-◌, ◌<◌, ◌≤◌, Bool, true, cond, List, [], ◌∷◌, ◌++◌, take, length, Option, Some, None, IsSome, count_by, refl, ap, ◌∙◌, arith, inl, inr}
use Rattle.std.specs.Prelude.{min}
use Rattle.std.proofs.lemmas.Bool.{cases_Bool, cond-true, cond-false}
use Rattle.blocks.proofs.Sums.{count_cons}
use Rattle.rehash_dict.specs.Table.{Table, Element, at_item, item}
use Rattle.collection_walk.proofs.Numbered.{within_parts, outside_parts}
use Rattle.collection_walk.proofs.Ranks.{Slots}
use Rattle.collection_walk.specs.Marks.{items_from, is_within, vacant_mark, vacant_below}

module _ (p : ℕ → Bool) where
  -- how many numbers below another the test takes
  abbrev pub passed_below : ℕ → ℕ
  passed_below zero = 0
  passed_below (suc n) = cond {A = ℕ} (p n) 1 0 + passed_below n

  pub within_count : (start end n : ℕ) → start ≤ end → ((x : ℕ) → x < n → p x ≡ is_within start end x) → passed_below n ≡ min end n - start
  within_count start end zero low same = omega (arith, low)
  within_count start end (suc n) low same = elim (cases_Bool (is_within start end n)) [
    | inl in' ↦ (let parts = within_parts start end n in' in
        omega (arith, cond-true {A = ℕ} (p n) 1 0 (same n (omega arith) ∙ in'), parts.0, parts.1, within_count start end n low (λ x less. same x (omega (arith, less)))))
    | inr out' ↦ (let none = cond-false {A = ℕ} (p n) 1 0 (same n (omega arith) ∙ out') in
        let before = within_count start end n low (λ x less. same x (omega (arith, less))) in
        elim (outside_parts start end n out') [
          | inl left ↦ omega (arith, none, before, left)
          | inr right ↦ omega (arith, none, before, right, low)
        ])
  ]

module _ {V : Type 0} (p : ℕ → Bool) where
  abbrev own_mark : ℕ → Option (Element V) → List ℕ
  own_mark n None = []
  own_mark n (Some e) = n ∷ []

  taken_zero : (n : ℕ) (items : Slots V) → count_by p (items_from n (take 0 items)) ≡ 0
  taken_zero n [] = refl
  taken_zero n (x ∷ items) = refl

  taken_next : (n : ℕ) (items : Slots V) (k mark : ℕ) → mark ≡ n + k
      → count_by p (items_from n (take (suc k) items)) ≡ count_by p (items_from n (take k items)) + count_by p (own_mark mark (at_item items k))
  taken_next n [] zero mark is = refl
  taken_next n [] (suc k) mark is = refl
  taken_next n (None ∷ items) zero mark is = omega (arith, taken_zero (suc n) items)
  taken_next n (Some e ∷ items) zero mark is =
      let same : n ≡ mark = omega (arith, is) in
      omega (arith, count_cons p n (items_from (suc n) (take 0 items)), count_cons p n [], taken_zero (suc n) items, ap (λ x. count_by p (x ∷ [])) same)
  taken_next n (None ∷ items) (suc k) mark is = taken_next (suc n) items k mark (omega (arith, is))
  taken_next n (Some e ∷ items) (suc k) mark is = omega (
    arith,
    count_cons p n (items_from (suc n) (take (suc k) items)),
    count_cons p n (items_from (suc n) (take k items)),
    taken_next (suc n) items k mark (omega (arith, is)),
  )

  taken_all : (n : ℕ) (items : Slots V) (k : ℕ) → ((i : ℕ) → IsSome (at_item items i) → i < k) → count_by p (items_from n (take k items)) ≡ count_by p (items_from n items)
  taken_all n [] zero below = refl
  taken_all n [] (suc k) below = refl
  taken_all n (Some e ∷ items) zero below = absurd (omega (arith, below 0 refl))
  taken_all n (None ∷ items) zero below = omega (arith, taken_zero (suc n) items, taken_all (suc n) items 0 (λ i some. absurd (omega (arith, below (suc i) some))))
  taken_all n (None ∷ items) (suc k) below = taken_all (suc n) items k (λ i some. omega (arith, below (suc i) some))
  taken_all n (Some e ∷ items) (suc k) below = omega (
    arith,
    count_cons p n (items_from (suc n) (take k items)),
    count_cons p n (items_from (suc n) items),
    taken_all (suc n) items k (λ i some. omega (arith, below (suc i) some)),
  )

  one_each : (t : Table V) (n : ℕ) → count_by p (items_from 0 (take n t.items)) + count_by p (vacant_below t n) ≡ passed_below p n
  one_each t zero = omega (arith, taken_zero 0 t.items)
  one_each t (suc n) = by_slot (item t n) refl (one_each t n)
    where
      by_slot : (o : Option (Element V)) → item t n ≡ o → count_by p (items_from 0 (take n t.items)) + count_by p (vacant_below t n) ≡ passed_below p n
          → count_by p (items_from 0 (take (suc n) t.items)) + count_by p (vacant_mark n o ++ vacant_below t n) ≡ cond {A = ℕ} (p n) 1 0 + passed_below p n
      by_slot None is before = omega (arith, before, taken_next 0 t.items n n (omega arith), ap (λ o. count_by p (own_mark n o)) is, count_cons p n (vacant_below t n))
      by_slot (Some e) is before = omega (arith, before, taken_next 0 t.items n n (omega arith), ap (λ o. count_by p (own_mark n o)) is, count_cons p n [])

  pub each_number : (t : Table V) → ((at : ℕ) → IsSome (item t at) → at < t.top) → count_by p (items_from 0 t.items) + count_by p (vacant_below t t.top) ≡ passed_below p t.top
  each_number t below = omega (arith, one_each t t.top, taken_all 0 t.items t.top below)

-- ---- all of them

all_count : (xs : List ℕ) → count_by (λ _. true) xs ≡ length xs
all_count [] = refl
all_count (x ∷ xs) = omega (arith, count_cons (λ _. true) x xs, all_count xs)

passed_all : (n : ℕ) → passed_below (λ _. true) n ≡ n
passed_all zero = refl
passed_all (suc n) = omega (arith, passed_all n)

-- there are as many elements and vacant item numbers as item numbers
pub all_units : {V : Type 0} (t : Table V) → ((at : ℕ) → IsSome (item t at) → at < t.top) → length (items_from 0 t.items) + length (vacant_below t t.top) ≡ t.top
all_units t below = omega (arith, all_count (items_from 0 t.items), all_count (vacant_below t t.top), each_number (λ _. true) t below, passed_all t.top)
