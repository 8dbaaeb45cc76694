-- Sizes of tables: the least power of two not below a number.
use Rattle.std.proofs.Common.{◌≡◌, inl, inr, ℕ, zero, suc, ◌+◌, ◌*◌, ◌/◌, ◌^◌, ◌≤◌, ◌<◌, true, false, refl, sym, ap, ◌∙◌, subst, arith, max}
use Rattle.std.specs.Prelude.{nat_le}
use Rattle.std.proofs.lemmas.Bool.{cases_eq, cases_lt, cond-true, cond-false}
use Rattle.std.proofs.lemmas.Bool.Decides.{nat_tests}
use Rattle.std.proofs.lemmas.Nat.{pow_below, pow_pos}
use Rattle.std.proofs.Math.Nat.{pow-suc}
use Rattle.rehash_dict.specs.Tables.{power_from, least_power}
use Rattle.rehash_dict.specs.Placed.{IsSize}
use Rattle.rehash_dict.specs.Placed.IsSize.{no_table, power}

pub pow_le : (i j : ℕ) → i ≤ j → 2 ^ i ≤ 2 ^ j
pow_le i j h = elim (cases_eq i j) [
  | inl e ↦ omega (arith, ap (λ k. 2 ^ k) e)
  | inr ne ↦ omega (arith, pow_below i j (omega arith))
]

fits_yes : (n p : ℕ) → n ≤ p → nat_le n p ≡ true
fits_yes n p h = grind (arith, nat_tests)

fits_no : (n p : ℕ) → p < n → nat_le n p ≡ false
fits_no n p h = grind (arith, nat_tests)

from_is : (fuel j k n : ℕ) → j ≤ k → k ≤ j + fuel → n ≤ 2 ^ k → ((i : ℕ) → j ≤ i → i < k → 2 ^ i < n) → power_from fuel (2 ^ j) n ≡ 2 ^ k
unfolding power_from
from_is zero j k n from to fits below = let same : j ≡ k = omega arith in ap (λ i. 2 ^ i) same
from_is (suc fuel) j k n from to fits below = elim (cases_eq j k) [
  | inl here ↦ cond-true (nat_le n (2 ^ j)) (2 ^ j) (power_from fuel (2 * 2 ^ j) n) (fits_yes n (2 ^ j) (omega (arith, ap (λ i. 2 ^ i) here))) ∙ ap (λ i. 2 ^ i) here
  | inr later ↦
      cond-false (nat_le n (2 ^ j)) (2 ^ j) (power_from fuel (2 * 2 ^ j) n) (fits_no n (2 ^ j) (below j (omega arith) (omega arith)))
      ∙ ap (λ p. power_from fuel p n) (omega (arith, pow-suc 2 j))
      ∙ from_is fuel (suc j) k n (omega arith) (omega arith) fits (λ i a b. below i (omega arith) b)
]

smaller : (k n i : ℕ) → 2 ^ k / 2 < max 1 n → i < k → 2 ^ i < n
smaller zero n i half lt = absurd (omega arith)
smaller (suc k) n i half lt =
    let double : 2 ^ suc k ≡ 2 * 2 ^ k = omega (arith, pow-suc 2 k) in
    let le : 2 ^ i ≤ 2 ^ k = pow_le i k (omega arith) in
    elim (cases_lt n 1) [
      | inl none ↦ absurd (omega (arith, pow_pos k))
      | inr some ↦ omega (arith, pow_pos k)
    ]

pub least_is : (k n r : ℕ) → r ≡ 2 ^ k → n ≤ r → r / 2 < max 1 n → k < 64 → least_power n ≡ r
unfolding least_power
least_is k n r e fits half lt = from_is 64 0 k n (omega arith) (omega arith) (omega arith) (λ i a b. smaller k n i (subst (λ m. m / 2 < max 1 n) e half) b) ∙ sym e

pub bits_below : (k r : ℕ) → r ≡ 2 ^ k → r < 2 ^ 64 → k < 64
bits_below k r e h = elim (cases_lt k 64) [ inl lt ↦ lt | inr over ↦ absurd (omega (arith, e, pow_le 64 k over)) ]

pub size_of_power : (k r : ℕ) → r ≡ 2 ^ k → 4 ≤ r → r < 2 ^ 64 → IsSize r
size_of_power k r e some fits = power k e (elim (cases_lt k 2) [ inl low ↦ absurd (omega (arith, e, pow_le k 1 (omega arith))) | inr ok ↦ ok ]) (bits_below k r e fits)

pub size_four : IsSize 4
size_four = power 2 refl (omega arith) (omega arith)

pub size_some : (n : ℕ) → IsSize n → 0 < n → 4 ≤ n
size_some n (no_table e) some = absurd (omega arith)
size_some n (power bits e low high) some = omega (arith, e, pow_le 2 bits low)

-- the size that a call of `next_power_of_two` answers
pub record IsGreatSize (n r : ℕ) : Type 0 where
  pub size : IsSize r
  pub least : least_power n ≡ r

pub great_size : (n r : ℕ) → ((k : ℕ) × (r ≡ 2 ^ k)) → n ≤ r → r / 2 < max 1 n → r < 2 ^ 64 → 4 ≤ r → IsGreatSize n r
great_size n r p fits half below some = record {
  size = size_of_power p.0 r p.1 some below;
  least = least_is p.0 n r p.1 fits half (bits_below p.0 r p.1 below);
}

-- the size that a table shrinks to
pub record IsLessSize (n r : ℕ) : Type 0 where
  pub size : IsSize r
  pub least : r ≡ max 4 (least_power n)

pub less_size : (n r m : ℕ) → ((k : ℕ) × (r ≡ 2 ^ k)) → n ≤ r → r / 2 < max 1 n → r < 2 ^ 64 → m ≡ max r 4 → IsLessSize n m
less_size n r m p fits half below is =
    let least : least_power n ≡ r = least_is p.0 n r p.1 fits half (bits_below p.0 r p.1 below) in
    record {
      size = elim (cases_lt r 4) [
        | inl low ↦ subst IsSize (omega arith) size_four
        | inr great ↦ subst IsSize (omega arith) (size_of_power p.0 r p.1 great below)
      ];
      least = omega arith;
    }
