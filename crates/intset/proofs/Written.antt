-- A number that is written in a width that holds it is read back.
use Rattle.std.proofs.Common.{◌≡◌, ℕ, suc, ◌+◌, ◌*◌, ◌-◌, ◌%◌, ◌^◌, ◌<◌, ◌≤◌, List, ◌++◌, refl, sym, ap, ◌∙◌, arith, inl, inr, true, false, lt-ltb, le-ltb, ltb-true, Bool, w64, subst}
use Rattle.std.specs.Prelude.{ℤ, pos, negsuc, nat_lt, if◌then◌else◌, FitsSigned, slice_index}
use Rattle.std.proofs.lemmas.Bool.{cases_lt}
use Rattle.std.proofs.lemmas.Int.{ints}
use Rattle.byteorder.specs.Endian.{little_bytes, little_number, low_bytes, twos_complement}
use Rattle.byteorder.specs.Numbers.{little_number-reads_back, little_from-lt}
use Rattle.intset.specs.Intset.{first_number, IsWidth, width_for, is_within}

-- a number above the halfway mark is negative
wraps : (width : ℕ) (x k : ℕ) → nat_lt x (2 ^ (8 * width - 1)) ≡ false → x + suc k ≡ 2 ^ (8 * width) → twos_complement width x ≡ negsuc k
wraps width x k high e = rw high (grind (arith, ints))

plain : (width : ℕ) (x : ℕ) → nat_lt x (2 ^ (8 * width - 1)) ≡ true → twos_complement width x ≡ pos x
plain width x low = rw low refl

within_two : (n : ℤ) → width_for n ≤ 2 → is_within (2 ^ 15) n ≡ true
within_two n h = grind arith

within_four : (n : ℤ) → width_for n ≤ 4 → is_within (2 ^ 31) n ≡ true
within_four n h = grind arith

below_true : (limit : ℕ) (k : ℕ) → is_within limit (negsuc k) ≡ true → k < limit
below_true limit k h = ltb-true k limit h

above_true : (limit : ℕ) (k : ℕ) → is_within limit (pos k) ≡ true → k < limit
above_true limit k h = ltb-true k limit h

back_two : (n : ℤ) → is_within (2 ^ 15) n ≡ true → twos_complement 2 (low_bytes w64 2 n) ≡ n
back_two (pos k) h =
    let small : k < 32768 = above_true (2 ^ 15) k h in
    let e : k % 65536 ≡ k = omega arith in
    rw e (plain 2 k (lt-ltb k 32768 small))
back_two (negsuc k) h =
    let small : k < 32768 = below_true (2 ^ 15) k h in
    let e : (18446744073709551616 - suc k) % 65536 ≡ 65536 - suc k = omega arith in
    rw e (wraps 2 (65536 - suc k) k (le-ltb (65536 - suc k) 32768 (omega arith)) (omega arith))

back_four : (n : ℤ) → is_within (2 ^ 31) n ≡ true → twos_complement 4 (low_bytes w64 4 n) ≡ n
back_four (pos k) h =
    let small : k < 2147483648 = above_true (2 ^ 31) k h in
    let e : k % 4294967296 ≡ k = omega arith in
    rw e (plain 4 k (lt-ltb k 2147483648 small))
back_four (negsuc k) h =
    let small : k < 2147483648 = below_true (2 ^ 31) k h in
    let e : (18446744073709551616 - suc k) % 4294967296 ≡ 4294967296 - suc k = omega arith in
    rw e (wraps 4 (4294967296 - suc k) k (le-ltb (4294967296 - suc k) 2147483648 (omega arith)) (omega arith))

back_eight : (n : ℤ) → FitsSigned w64 n → twos_complement 8 (low_bytes w64 8 n) ≡ n
back_eight (pos k) h =
    let small : k < 9223372036854775808 = h.sfits in
    let e : k % 18446744073709551616 ≡ k = omega arith in
    rw e (plain 8 k (lt-ltb k 9223372036854775808 small))
back_eight (negsuc k) h =
    let small : k < 9223372036854775808 = h.sfits in
    let e : (18446744073709551616 - suc k) % 18446744073709551616 ≡ 18446744073709551616 - suc k = omega arith in
    rw e (wraps 8 (18446744073709551616 - suc k) k (le-ltb (18446744073709551616 - suc k) 9223372036854775808 (omega arith)) (omega arith))

-- the bytes of a number, written in a width that holds it
pub written : (width : ℕ) (n : ℤ) (rest : List ℕ) → IsWidth width → width_for n ≤ width → FitsSigned w64 n → first_number width (little_bytes width (low_bytes w64 width n) ++ rest) ≡ n
unfolding first_number
written width n rest sized fits range = elim sized [
  | inl e ↦ subst (λ w. width_for n ≤ w → twos_complement w (little_number w (little_bytes w (low_bytes w64 w n) ++ rest)) ≡ n) (sym e)
      (λ h. ap (twos_complement 2) (little_number-reads_back 2 (low_bytes w64 2 n) rest (omega arith)) ∙ back_two n (within_two n h)) fits
  | inr more ↦ elim more [
    | inl e ↦ subst (λ w. width_for n ≤ w → twos_complement w (little_number w (little_bytes w (low_bytes w64 w n) ++ rest)) ≡ n) (sym e)
        (λ h. ap (twos_complement 4) (little_number-reads_back 4 (low_bytes w64 4 n) rest (omega arith)) ∙ back_four n (within_four n h)) fits
    | inr e ↦ subst (λ w. width_for n ≤ w → twos_complement w (little_number w (little_bytes w (low_bytes w64 w n) ++ rest)) ≡ n) (sym e)
        (λ h. ap (twos_complement 8) (little_number-reads_back 8 (low_bytes w64 8 n) rest (omega arith)) ∙ back_eight n range) fits
  ]
]

cond_le : (a b : Bool) → b ≡ true → (if a then 2 else if b then 4 else 8) ≤ 4
cond_le a b h = grind arith

cond_eight : (a b : Bool) → (if a then 2 else if b then 4 else 8) ≤ 8
cond_eight a b = grind arith

width_for_two : (n : ℤ) → is_within (2 ^ 15) n ≡ true → width_for n ≡ 2
width_for_two n h = rw h refl

width_for_four : (n : ℤ) → is_within (2 ^ 31) n ≡ true → width_for n ≤ 4
width_for_four n h = cond_le (is_within (2 ^ 15) n) (is_within (2 ^ 31) n) h

pub width_for_eight : (n : ℤ) → width_for n ≤ 8
width_for_eight n = cond_eight (is_within (2 ^ 15) n) (is_within (2 ^ 31) n)

-- a number that was read in a width is held by it
read_fits : (width half : ℕ) (x : ℕ) → 2 ^ (8 * width - 1) ≡ half → 2 ^ (8 * width) ≡ half + half → x < half + half → is_within half (twos_complement width x) ≡ true
read_fits width half x low high fits = elim (cases_lt x half) [
  | inl below ↦ rw (plain width x (rw low (lt-ltb x half below))) (lt-ltb x half below)
  | inr above ↦
      rw (wraps width x (half + half - suc x) (rw low (le-ltb x half above)) (rw high (omega arith)))
      (lt-ltb (half + half - suc x) half (omega arith))
]

pub first_number_fits : (width : ℕ) (packed : List ℕ) → IsWidth width → ((k : ℕ) → slice_index packed k < 256) → width_for (first_number width packed) ≤ width
unfolding first_number
first_number_fits width packed sized bytes = elim sized [
  | inl e ↦ subst (λ w. width_for (twos_complement w (little_number w packed)) ≤ w) (sym e)
      (let w = width_for_two (twos_complement 2 (little_number 2 packed)) (read_fits 2 32768 (little_number 2 packed) refl refl (little_from-lt 0 2 packed bytes)) in omega arith)
  | inr more ↦ elim more [
    | inl e ↦ subst (λ w. width_for (twos_complement w (little_number w packed)) ≤ w) (sym e)
        (width_for_four (twos_complement 4 (little_number 4 packed)) (read_fits 4 2147483648 (little_number 4 packed) refl refl (little_from-lt 0 4 packed bytes)))
    | inr e ↦ rw e (width_for_eight (twos_complement 8 (little_number 8 packed)))
  ]
]
