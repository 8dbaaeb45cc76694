-- All numbers below one, of which names are sifted.
use Rattle.std.proofs.Common.{◌≡◌, ◌≢◌, inl, inr, ℕ, zero, suc, ◌+◌, ◌-◌, ◌<◌, ◌≤◌, [], ◌∷◌, refl, ap, ◌∙◌, arith}
use Rattle.std.proofs.lemmas.Bool.{cases_eq}
use Rattle.rev_cursor.specs.Span.{times}
use Rattle.rehash_dict.proofs.Counts.{times_here, times_past}
use Rattle.cmd_keys.specs.Sieve.{numbers}

numbers_suc : (less item : ℕ) → numbers (suc less) item ≡ item ∷ numbers less (suc item)
unfolding numbers
numbers_suc less item = refl

numbers_zero : (item : ℕ) → numbers 0 item ≡ []
unfolding numbers
numbers_zero item = refl

pub numbers_next : (top item : ℕ) → item < top → numbers (top - item) item ≡ item ∷ numbers (top - (item + 1)) (item + 1)
numbers_next top item below =
    let count : top - item ≡ suc (top - (item + 1)) = omega (arith, below) in
    let next : suc item ≡ item + 1 = omega arith in
    ap (λ (n : ℕ). numbers n item) count ∙ numbers_suc (top - (item + 1)) item ∙ ap (λ (n : ℕ). item ∷ numbers (top - (item + 1)) n) next

pub numbers_none : (top item : ℕ) → top ≤ item → numbers (top - item) item ≡ []
numbers_none top item over = (let count : top - item ≡ 0 = omega (arith, over) in ap (λ (n : ℕ). numbers n item) count ∙ numbers_zero item)

numbers_before : (count from i : ℕ) → i < from → times i (numbers count from) ≡ 0
unfolding numbers
numbers_before zero from i below = refl
numbers_before (suc count) from i below =
    (let apart : from ≢ i = λ e. omega (arith, below, e) in omega (arith, times_past i from (numbers count (suc from)) apart, numbers_before count (suc from) i (omega (arith, below))))

pub numbers_few : (count from i : ℕ) → times i (numbers count from) ≤ 1
unfolding numbers
numbers_few zero from i = omega arith
numbers_few (suc count) from i = elim (cases_eq from i) [
  | inl same ↦
      (let here : times i (from ∷ numbers count (suc from)) ≡ suc (times i (numbers count (suc from))) = ap (λ (o : ℕ). times i (o ∷ numbers count (suc from))) same
      ∙ times_here i (numbers count (suc from)) in
      omega (arith, here, numbers_before count (suc from) i (omega (arith, same))))
  | inr apart ↦ omega (arith, times_past i from (numbers count (suc from)) apart, numbers_few count (suc from) i)
]

pub numbers_met : (count from i : ℕ) → from ≤ i → i < from + count → 0 < times i (numbers count from)
unfolding numbers
numbers_met zero from i least below = absurd (omega (arith, least, below))
numbers_met (suc count) from i least below = elim (cases_eq from i) [
  | inl same ↦
      (let here : times i (from ∷ numbers count (suc from)) ≡ suc (times i (numbers count (suc from))) = ap (λ (o : ℕ). times i (o ∷ numbers count (suc from))) same
      ∙ times_here i (numbers count (suc from)) in omega (arith, here))
  | inr apart ↦ omega (arith, times_past i from (numbers count (suc from)) apart, numbers_met count (suc from) i (omega (arith, least, apart)) (omega (arith, below)))
]
