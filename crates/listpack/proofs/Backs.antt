-- Back lengths, by the size.
use Rattle.std.proofs.Common.{◌≡◌, ℕ, ◌+◌, ◌-◌, ◌*◌, ◌/◌, ◌^◌, ◌%◌, ◌<◌, ◌≤◌, List, [], ◌∷◌, ◌++◌, length, get_or, refl, ap, ◌∙◌, inl, inr, arith, length-append}
use Rattle.std.proofs.lemmas.Bool.{cases_lt}
use Rattle.std.proofs.lemmas.List.{get_or-append-add}
use Rattle.std.proofs.lemmas.Bool.Decides.{nat_tests}
use Rattle.listpack.specs.Entry.{back_length, seven_bits}

pub back_one : (n : ℕ) → n < 128 → back_length n ≡ n ∷ []
unfolding back_length
back_one n h = grind (arith, nat_tests)

pub back_two : (n : ℕ) → 128 ≤ n → n < 16383 → back_length n ≡ n / 128 ∷ seven_bits n ∷ []
unfolding back_length
back_two n l h = grind (arith, nat_tests)

pub back_three : (n : ℕ) → 16383 ≤ n → n < 2097151 → back_length n ≡ n / 128 ^ 2 ∷ seven_bits (n / 128) ∷ seven_bits n ∷ []
unfolding back_length
back_three n l h = grind (arith, nat_tests)

pub back_four : (n : ℕ) → 2097151 ≤ n → n < 268435455 → back_length n ≡ n / 128 ^ 3 ∷ seven_bits (n / 128 ^ 2) ∷ seven_bits (n / 128) ∷ seven_bits n ∷ []
unfolding back_length
back_four n l h = grind (arith, nat_tests)

pub back_five : (n : ℕ) → 268435455 ≤ n → back_length n ≡ n / 128 ^ 4 ∷ seven_bits (n / 128 ^ 3) ∷ seven_bits (n / 128 ^ 2) ∷ seven_bits (n / 128) ∷ seven_bits n ∷ []
unfolding back_length
back_five n l = grind (arith, nat_tests)

pub ruleset by_size = (arith, back_one, back_two, back_three, back_four, back_five)

-- What stands at the end of bytes that end with the back length of n, z k being the k-th byte from the end.
pub data Ends (n len count : ℕ) (z : ℕ → ℕ) : Type 0 where
  one : n < 128 → z 1 ≡ n → count ≡ 1 → 1 ≤ len → Ends n len count z
  two : 128 ≤ n → n < 16383 → z 1 ≡ seven_bits n → z 2 ≡ n / 128 → count ≡ 2 → 2 ≤ len → Ends n len count z
  three : 16383 ≤ n → n < 2097151 → z 1 ≡ seven_bits n → z 2 ≡ seven_bits (n / 128) → z 3 ≡ n / 128 ^ 2 → count ≡ 3 → 3 ≤ len → Ends n len count z
  four : 2097151 ≤ n → n < 268435455 → z 1 ≡ seven_bits n → z 2 ≡ seven_bits (n / 128) → z 3 ≡ seven_bits (n / 128 ^ 2) → z 4 ≡ n / 128 ^ 3
      → count ≡ 4 → 4 ≤ len → Ends n len count z
  five : 268435455 ≤ n → z 1 ≡ seven_bits n → z 2 ≡ seven_bits (n / 128) → z 3 ≡ seven_bits (n / 128 ^ 2) → z 4 ≡ seven_bits (n / 128 ^ 3) → z 5 ≡ n / 128 ^ 4
      → count ≡ 5 → 5 ≤ len → Ends n len count z

abbrev pub from_end : List ℕ → ℕ → ℕ
from_end bytes k = get_or bytes (length bytes - k) 0

-- a byte of the back length, counted from the end
at_end : (front back bytes : List ℕ) (k i : ℕ) → bytes ≡ front ++ back → i + k ≡ length back → from_end bytes k ≡ get_or back i 0
at_end front back bytes k i e h =
    let place : length bytes - k ≡ length front + i = omega (arith, ap length e, length-append front back) in
    ap (λ (j : ℕ). get_or bytes j 0) place ∙ ap (λ (xs : List ℕ). get_or xs (length front + i) 0) e ∙ get_or-append-add front back i 0

ends_as : (front back bytes : List ℕ) (n : ℕ) → bytes ≡ front ++ back_length n → back_length n ≡ back → (bytes ≡ front ++ back) × (length (back_length n) ≡ length back) × (length back ≤ length bytes)
ends_as front back bytes n e same =
    let new : bytes ≡ front ++ back = e ∙ ap (λ (xs : List ℕ). front ++ xs) same in
    (new, ap length same, omega (arith, ap length new, length-append front back))

pub ends : (front bytes : List ℕ) (n : ℕ) → bytes ≡ front ++ back_length n → Ends n (length bytes) (length (back_length n)) (from_end bytes)
ends front bytes n e = elim (cases_lt n 128) [
  | inl h ↦ let b = n ∷ [] in let t = ends_as front b bytes n e (back_one n h) in
      one h (at_end front b bytes 1 0 t.0 refl) t.1 t.2
  | inr l1 ↦ elim (cases_lt n 16383) [
    | inl h ↦ let b = n / 128 ∷ seven_bits n ∷ [] in let t = ends_as front b bytes n e (back_two n l1 h) in
        two l1 h (at_end front b bytes 1 1 t.0 refl) (at_end front b bytes 2 0 t.0 refl) t.1 t.2
    | inr l2 ↦ elim (cases_lt n 2097151) [
      | inl h ↦ let b = n / 128 ^ 2 ∷ seven_bits (n / 128) ∷ seven_bits n ∷ [] in let t = ends_as front b bytes n e (back_three n l2 h) in
          three l2 h (at_end front b bytes 1 2 t.0 refl) (at_end front b bytes 2 1 t.0 refl) (at_end front b bytes 3 0 t.0 refl) t.1 t.2
      | inr l3 ↦ elim (cases_lt n 268435455) [
        | inl h ↦ let b = n / 128 ^ 3 ∷ seven_bits (n / 128 ^ 2) ∷ seven_bits (n / 128) ∷ seven_bits n ∷ [] in let t = ends_as front b bytes n e (back_four n l3 h) in
            four l3 h (at_end front b bytes 1 3 t.0 refl) (at_end front b bytes 2 2 t.0 refl) (at_end front b bytes 3 1 t.0 refl) (at_end front b bytes 4 0 t.0 refl) t.1 t.2
        | inr l4 ↦ let b = n / 128 ^ 4 ∷ seven_bits (n / 128 ^ 3) ∷ seven_bits (n / 128 ^ 2) ∷ seven_bits (n / 128) ∷ seven_bits n ∷ [] in let t = ends_as front b bytes n e (back_five n l4) in
            five l4 (at_end front b bytes 1 4 t.0 refl) (at_end front b bytes 2 3 t.0 refl) (at_end front b bytes 3 2 t.0 refl) (at_end front b bytes 4 1 t.0 refl)
            (at_end front b bytes 5 0 t.0 refl) t.1 t.2
      ]
    ]
  ]
]
