-- Numbers that are told apart up to a bound.
use Rattle.std.proofs.Common.{◌≡◌, ℕ, zero, suc, ◌+◌, ◌-◌, ◌*◌, ◌<◌, ◌≤◌, ◌^◌, List, [], ◌∷◌, length, drop, get_or, min, refl, sym, ap, ◌∙◌, inl, inr, arith, lit<, lit≤}
use Rattle.std.specs.Char.{digit_value}
use Rattle.std.specs.Int.{IsInRange}
use Rattle.std.specs.Str.Parse.{AllDigits, digits_value, digits_value_after}
use Rattle.std.proofs.lemmas.Bool.{cases_lt}
use Rattle.std.proofs.lemmas.Bool.Decides.{nat_tests}
use Rattle.std.proofs.lemmas.Str.Parse.{digit_from_value}
use Rattle.std.proofs.Math.Nat.{mul-le-mul_left, mul-le-mul_right, pow-le-pow_right, one-le-pow}
use Rattle.std.proofs.lemmas.Nat.{pow-add}
use Rattle.int_text.proofs.Numerals.{value_step, value_grows}

-- the bound
abbrev pub large : ℕ
large = 100000000000000000

pub digit_range : (ds : List ℕ) (i : ℕ) → AllDigits 10 ds → i < length ds → IsInRange 48 57 (get_or ds i 0)
digit_range [] i all h = absurd (omega arith)
digit_range (c ∷ cs) zero all h = digit_from_value c all.0
digit_range (c ∷ cs) (suc i) all h = digit_range cs i all.1 (omega arith)

-- a digit's byte is its value above that of `0`
pub digit_is : (c : ℕ) → digit_value c < 10 → digit_value c ≡ c - 48
digit_is c h = let r = digit_from_value c h in digit_in c r.0 r.1
  where
    digit_in : (c : ℕ) → 48 ≤ c → c ≤ 57 → digit_value c ≡ c - 48
    digit_in c low high = grind (arith, nat_tests)

pub digit_at_is : (ds : List ℕ) (i : ℕ) → AllDigits 10 ds → i < length ds → digit_value (get_or ds i 0) ≡ get_or ds i 0 - 48
digit_at_is [] i all h = absurd (omega arith)
digit_at_is (c ∷ cs) zero all h = digit_is c all.0
digit_at_is (c ∷ cs) (suc i) all h = digit_at_is cs i all.1 (omega arith)

-- what is cut at the bound before more digits are read is cut there after them
pub capped_after : (a b : ℕ) (ds : List ℕ) → min a large ≡ min b large → min (digits_value_after 10 a ds) large ≡ min (digits_value_after 10 b ds) large
capped_after a b [] e = e
capped_after a b (c ∷ cs) e = capped_after (a * 10 + digit_value c) (b * 10 + digit_value c) cs (omega arith)

pub capped_step : (ds : List ℕ) (i value start : ℕ) → AllDigits 10 ds → i < length ds →
    min (digits_value_after 10 value (drop i ds)) large ≡ min (digits_value_after 10 start ds) large →
    min (digits_value_after 10 (min (value * 10 + (get_or ds i 0 - 48)) large) (drop (i + 1) ds)) large ≡ min (digits_value_after 10 start ds) large
capped_step ds i value start all h before =
    let d = digit_at_is ds i all h in
    let here = value_step value ds i h in
    capped_after (min (value * 10 + (get_or ds i 0 - 48)) large) (value * 10 + digit_value (get_or ds i 0)) (drop (i + 1) ds) (omega (arith, d))
    ∙ ap (λ n. min n large) (sym here) ∙ before

-- more zeros than the bound has leave nothing to tell
pub capped_zeros : (number count : ℕ) → 17 ≤ count → min (number * 10 ^ 17) large ≡ min (number * 10 ^ count) large
capped_zeros zero count h = omega arith
capped_zeros (suc number) count h =
    let more : 10 ^ 17 ≤ 10 ^ count = pow-le-pow_right {n = 10} (lit≤ tt) h in
    let one : 10 ^ 17 ≤ suc number * 10 ^ 17 = omega arith in
    let two : suc number * 10 ^ 17 ≤ suc number * 10 ^ count = mul-le-mul_left (suc number) more in
    omega arith

-- zeros alone are 0
pub zeros_value : (ds : List ℕ) → ((k : ℕ) → k < length ds → get_or ds k 0 ≡ 48) → digits_value 10 ds ≡ 0
zeros_value [] each = refl
zeros_value (c ∷ cs) each =
    let first : c ≡ 48 = each 0 (omega arith) in
    ap (λ b. digits_value_after 10 (0 * 10 + digit_value b) cs) first ∙ zeros_value cs (λ k h. each (suc k) (omega arith))

first_zero : (c : ℕ) (cs : List ℕ) → digits_value 10 (c ∷ cs) ≡ 0 → 0 * 10 + digit_value c ≡ 0
first_zero c cs none = let grown = value_grows (0 * 10 + digit_value c) cs in let e : digits_value_after 10 (0 * 10 + digit_value c) cs ≡ 0 = none in omega (arith, grown, e)

-- and only they are
pub value_zeros : (ds : List ℕ) → AllDigits 10 ds → digits_value 10 ds ≡ 0 → (k : ℕ) → k < length ds → get_or ds k 0 ≡ 48
value_zeros [] all none k h = absurd (omega arith)
value_zeros (c ∷ cs) all none zero h =
    let is : digit_value c ≡ c - 48 = digit_is c all.0 in
    let range : IsInRange 48 57 c = digit_from_value c all.0 in
    omega (arith, first_zero c cs none)
value_zeros (c ∷ cs) all none (suc k) h =
    value_zeros cs all.1 (ap (λ n. digits_value_after 10 n cs) (sym (first_zero c cs none)) ∙ none) k (omega arith)

-- one more place of zeros
pub capped_place : (value number place : ℕ) → value ≡ min (number * 10 ^ place) large → min (value * 10) large ≡ min (number * 10 ^ (place + 1)) large
capped_place value number place is =
    let p : number * 10 ^ (place + 1) ≡ number * 10 ^ place * 10 = ap (λ n. number * n) (pow-add 10 place 1) ∙ omega arith in
    omega (arith, p)

pub capped_end : (value number count place end : ℕ) → value ≡ min (number * 10 ^ place) large → end ≡ min count 17 → place ≤ end → end ≤ place → value ≡ min (number * 10 ^ count) large
capped_end value number count place end is last low high =
    elim (cases_lt count 17) [
      | inl few ↦ let e : place ≡ count = omega arith in is ∙ ap (λ k. min (number * 10 ^ k) large) e
      | inr many ↦ let e : place ≡ 17 = omega arith in is ∙ ap (λ k. min (number * 10 ^ k) large) e ∙ capped_zeros number count many
    ]

-- what is cut at the bound before it is multiplied is cut there after it
pub capped_times : (m k : ℕ) → min (min m large * 10 ^ k) large ≡ min (m * 10 ^ k) large
capped_times m k =
    let some : 1 ≤ 10 ^ k = one-le-pow k 10 (lit< tt) in
    elim (cases_lt m large) [
      | inl small ↦ let e : min m large ≡ m = omega arith in ap (λ n. min (n * 10 ^ k) large) e
      | inr many ↦
          let cut : min m large ≡ large = omega arith in
          let one : large * 1 ≤ large * 10 ^ k = mul-le-mul_left large some in
          let two : large * 10 ^ k ≤ m * 10 ^ k = mul-le-mul_right (10 ^ k) many in
          let both : min (large * 10 ^ k) large ≡ min (m * 10 ^ k) large = omega arith in ap (λ n. min (n * 10 ^ k) large) cut ∙ both
    ]
