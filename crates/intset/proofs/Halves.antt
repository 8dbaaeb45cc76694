-- A search that halves what is left.
use Rattle.std.proofs.Common.{◌≡◌, ℕ, zero, suc, ◌-◌, ◌+◌, ◌<◌, ◌≤◌, inl, inr, List, length, get_or, Some, refl, arith}
use Rattle.std.specs.Prelude.{ℤ, pos, negsuc, ◌<ℤ◌, ◌≤ℤ◌, slice_get, int_lt, int_le, true, false, Result, Ok, Err, IfOk, IfErr, is_ok, IsTrue, ◌↔◌}
use Rattle.std.specs.List.{Contains}
use Rattle.std.proofs.lemmas.Int.{ints, by_lt_z}
use Rattle.std.proofs.lemmas.Bool.{cases_lt}
use Rattle.std.proofs.lemmas.Option.{get_or_from_slice_get, slice_get_within}
use Rattle.intset.specs.Intset.{IsRising}
use Rattle.intset.specs.Places.{IsBetween, IsPlace, RisesBelow}

-- the number at the middle is less than n, so n comes after it
pub between_upper : (numbers : List ℤ) (n : ℤ) (low high middle : ℕ) (x : ℤ) → IsRising numbers → IsBetween numbers n low high → middle < high → slice_get numbers middle ≡ Some x → x <ℤ n
    → IsBetween numbers n (middle + 1) high
between_upper numbers n low high middle x rising between under found less = record {
  ordered = omega arith;
  within = between.within;
  before = λ k d h. elim (cases_lt k middle) [
    | inl below ↦
        let here : get_or numbers middle d ≡ x = get_or_from_slice_get numbers middle x d found in
        let up = rising k middle d below (let w = between.within in omega arith) in
        let up' : get_or numbers k d <ℤ x = rw here at up in
        omega (arith, ints)
    | inr above ↦
        let same : k ≡ middle = omega arith in
        let here : get_or numbers middle d ≡ x = get_or_from_slice_get numbers middle x d found in
        rw (same, here) less
  ];
  after = between.after;
}

-- the number at the middle is greater than n, so n comes before it
pub between_lower : (numbers : List ℤ) (n : ℤ) (low high middle : ℕ) (x : ℤ) → IsRising numbers → IsBetween numbers n low high → low ≤ middle → middle < high
    → slice_get numbers middle ≡ Some x → n <ℤ x → IsBetween numbers n low middle
between_lower numbers n low high middle x rising between over under found more = record {
  ordered = over;
  within = let w = between.within in omega arith;
  before = between.before;
  after = λ k d from upto. elim (cases_lt middle k) [
    | inl below ↦
        let here : get_or numbers middle d ≡ x = get_or_from_slice_get numbers middle x d found in
        let up = rising middle k d below upto in
        let up' : x <ℤ get_or numbers k d = rw here at up in
        omega (arith, ints)
    | inr above ↦
        let same : k ≡ middle = omega arith in
        let here : get_or numbers middle d ≡ x = get_or_from_slice_get numbers middle x d found in
        rw (same, here) more
  ];
}

-- a number that has a place is not among the numbers
pub place_absent : (numbers : List ℤ) (n : ℤ) (place k : ℕ) (d : ℤ) → IsPlace numbers n place → k < length numbers → get_or numbers k d ≡ n → ⊥
place_absent numbers n place k d at within same = elim (cases_lt k place) [
  | inl below ↦ let less : get_or numbers k d <ℤ n = at.before k d below in absurd (omega (arith, ints))
  | inr above ↦ let more : n <ℤ get_or numbers k d = at.after k d above within in absurd (omega (arith, ints))
]

pub less_true : (a b : ℤ) → int_lt a b ≡ true → a <ℤ b
less_true a b h = grind (arith, ints)

-- two numbers that are each at most the other are one
le_both : (a b : ℤ) → a ≤ℤ b → b ≤ℤ a → a ≡ b
le_both (pos a) (pos b) h k = let e : a ≡ b = omega (arith, ints) in rw e refl
le_both (pos a) (negsuc b) h k = absurd (omega (arith, ints))
le_both (negsuc a) (pos b) h k = absurd (omega (arith, ints))
le_both (negsuc a) (negsuc b) h k = let e : a ≡ b = omega (arith, ints) in rw e refl

pub more_false : (a b : ℤ) → int_lt a b ≡ false → (a ≡ b → ⊥) → b <ℤ a
more_false a b h differ = by_lt_z a b
    (λ less. let t : int_lt a b ≡ true = grind (arith, ints) in absurd (cc))
    (λ le. by_lt_z b a (λ more. more) (λ ge. absurd (differ (le_both a b ge le))))

-- what the search finds says whether the number is there
pub found_contains : (numbers : List ℤ) (n : ℤ) (r : Result ℕ ℕ) → IfOk r (λ place. slice_get numbers place ≡ Some n) → IfErr r (IsPlace numbers n) → IsTrue (is_ok r) ↔ Contains numbers n
found_contains numbers n (Ok place) found absent =
    ((λ _. (place, slice_get_within numbers place n found, get_or_from_slice_get numbers place n n found)), (λ _. refl))
found_contains numbers n (Err place) found absent =
    ((λ h. absurd (cc)), (λ h. absurd (place_absent numbers n place h.0 n absent h.1 h.2)))

-- a list in which each number is greater than the one before it rises
pub rises_rising : (numbers : List ℤ) (bound : ℕ) → length numbers ≤ bound → RisesBelow numbers bound → IsRising numbers
rises_rising numbers bound all rises i zero d below within = absurd (omega arith)
rises_rising numbers bound all rises i (suc j) d below within =
    let last : get_or numbers j d <ℤ get_or numbers (suc j) d = rises j d (omega arith) in
    elim (cases_lt i j) [
      | inl under ↦
          let first : get_or numbers i d <ℤ get_or numbers j d = rises_rising numbers bound all rises i j d under (omega arith) in
          omega (arith, ints)
      | inr over ↦ let same : i ≡ j = omega arith in rw same last
    ]

-- one number more
pub rises_more : (numbers : List ℤ) (bound : ℕ) (before here : ℤ) → 0 < bound → bound < length numbers → RisesBelow numbers bound
    → ((d : ℤ) → get_or numbers (bound - 1) d ≡ before) → ((d : ℤ) → get_or numbers bound d ≡ here) → before <ℤ here → RisesBelow numbers (bound + 1)
rises_more numbers bound before here above within rises left right less k d under = elim (cases_lt (suc k) bound) [
  | inl low ↦ rises k d low
  | inr high ↦
      let first : k ≡ bound - 1 = omega arith in
      let second : suc k ≡ bound = omega arith in
      rw (second, first, left d, right d) less
]

not_both : (a b : ℤ) → a <ℤ b → int_le b a ≡ true → ⊥
not_both a b less most = grind (arith, ints)

-- a number that is not greater than the one before it
pub rising_refuted : (numbers : List ℤ) (index : ℕ) (before here : ℤ) → 0 < index → index < length numbers → get_or numbers (index - 1) here ≡ before → get_or numbers index here ≡ here
    → int_le here before ≡ true → IsRising numbers → ⊥
rising_refuted numbers index before here above within left right most rising =
    let up = rising (index - 1) index here (omega arith) within in
    let up' : before <ℤ here = rw (left, right) at up in
    not_both before here up' most

pub less_from_le : (a b : ℤ) → int_le a b ≡ false → b <ℤ a
less_from_le a b h = grind (arith, ints)
