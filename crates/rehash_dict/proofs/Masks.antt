-- The test of a walk: no bit between the masks is set.
use Rattle.std.proofs.Common.{◌≡◌, ℕ, ◌<◌, ◌-◌, ◌*◌, ◌/◌, ◌+◌, ◌%◌, ◌^◌, zero, suc, refl, sym, ap, ◌∙◌, arith, bit_and, bit_xor}
use Rattle.std.proofs.lemmas.Nat.{pow_pos, pow-add, mod_low, xor_block}
use Rattle.std.proofs.lemmas.Nat.Bits.{and_high}
use Rattle.std.specs.Int.Bits.{xor_self, xor_zero_l}
use Rattle.std.proofs.Math.Nat.{mul_comm, suc-mul}
use Rattle.rev_cursor.specs.Place.{reversed}
use Rattle.rev_cursor.proofs.Reversal.{reversed_below, reversed_split, reversed_low, reversed_twice}
use Rattle.rev_cursor.proofs.Places.{reversed_zero}

-- the low bits of a reversal are the reversal of the high bits
reversed_rest : (small d v : ℕ) → reversed (small + d) v % 2 ^ d ≡ reversed d (v / 2 ^ small)
reversed_rest small d v = ap (λ (x : ℕ). x % 2 ^ d) (reversed_split small d v) ∙ mod_low (reversed small v) d (reversed d (v / 2 ^ small)) (reversed_below d (v / 2 ^ small))

zero_from_reversed : (d x : ℕ) → reversed d x ≡ 0 → x % 2 ^ d ≡ 0
zero_from_reversed d x e = sym (reversed_twice d x) ∙ ap (reversed d) e ∙ reversed_zero d

reversed_from_zero : (d x : ℕ) → x % 2 ^ d ≡ 0 → reversed d x ≡ 0
reversed_from_zero d x e = sym (reversed_low d x) ∙ ap (reversed d) e ∙ reversed_zero d

-- the difference of two masks
masks : (small d : ℕ) → bit_xor (2 ^ small - 1) (2 ^ (small + d) - 1) ≡ 2 ^ (d + small) - 2 ^ small
masks small d =
    let low : 2 ^ small - 1 < 2 ^ small = omega (arith, pow_pos small) in
    let none : 2 ^ small - 1 ≡ 0 * 2 ^ small + (2 ^ small - 1) = omega arith in
    let some : 2 ^ (small + d) - 1 ≡ (2 ^ d - 1) * 2 ^ small + (2 ^ small - 1) = omega (arith, pow_pos small, pow_pos d, whole) in
    ap (λ (x : ℕ). bit_xor x (2 ^ (small + d) - 1)) none ∙ ap (bit_xor (0 * 2 ^ small + (2 ^ small - 1))) some
    ∙ xor_block small 0 (2 ^ d - 1) (2 ^ small - 1) (2 ^ small - 1) low low
    ∙ omega (arith, xor_self (2 ^ small - 1), xor_zero_l (2 ^ d - 1), whole, pow-add 2 d small, pow-add 2 small d)
  where
    split : (a b : ℕ) → 0 < a → a * b ≡ (a - 1) * b + b
    split zero b h = absurd (omega arith)
    split (suc a) b h =
        let e : suc a - 1 ≡ a = omega arith in
        rw e (suc-mul a b)

    whole : 2 ^ (small + d) ≡ (2 ^ d - 1) * 2 ^ small + 2 ^ small
    whole = pow-add 2 small d ∙ mul_comm (2 ^ small) (2 ^ d) ∙ split (2 ^ d) (2 ^ small) (pow_pos d)

-- the section's test for the last turn says that the smaller table's bucket is through
pub test_end : (small d v : ℕ) → bit_and v (bit_xor (2 ^ small - 1) (2 ^ (small + d) - 1)) ≡ 0 → reversed (small + d) v % 2 ^ d ≡ 0
test_end small d v e =
    let high : v / 2 ^ small % 2 ^ d * 2 ^ small ≡ 0 = sym (and_high v d small) ∙ ap (bit_and v) (sym (masks small d)) ∙ e in
    let none : v / 2 ^ small % 2 ^ d ≡ 0 = factor (v / 2 ^ small % 2 ^ d) (2 ^ small) (pow_pos small) high in
    reversed_rest small d v ∙ reversed_from_zero d (v / 2 ^ small) none
  where
    factor : (a b : ℕ) → 0 < b → a * b ≡ 0 → a ≡ 0
    factor zero b pos e = refl
    factor (suc a) b pos e = absurd (omega (arith, suc-mul a b))

pub end_test : (small d v : ℕ) → reversed (small + d) v % 2 ^ d ≡ 0 → bit_and v (bit_xor (2 ^ small - 1) (2 ^ (small + d) - 1)) ≡ 0
end_test small d v e =
    let none : v / 2 ^ small % 2 ^ d ≡ 0 = zero_from_reversed d (v / 2 ^ small) (sym (reversed_rest small d v) ∙ e) in
    ap (bit_and v) (masks small d) ∙ and_high v d small ∙ rw none (omega arith)
