use Rattle.std.proofs.Common.{◌≡◌, ℕ, ◌+◌, ◌*◌, ◌/◌, ◌%◌, ◌^◌, ◌<◌, zero, suc, refl, ap, arith, sym, ◌∙◌}
use Rattle.std.proofs.Math.Nat.{pow-suc, add-mul, mul_assoc}
use Rattle.std.proofs.lemmas.Nat.{pow-add, shr-shr, mod-pow-add, field_of, shr_high, mod_low, mul-add-lt}
use Rattle.std.specs.Int.{reverse_bits_onto}
use Rattle.rev_cursor.specs.Place.{reversed}

-- std's reversal is this one
pub onto : (k n a : ℕ) → reverse_bits_onto k n a ≡ a * 2 ^ k + reversed k n
unfolding reversed reverse_bits_onto
onto zero n a = omega arith
onto (suc k) n a =
    onto k (n / 2) (a * 2 + n % 2)
    ∙ ap (λ (x : ℕ). x + reversed k (n / 2)) (add-mul (a * 2) (n % 2) (2 ^ k))
    ∙ rw (pow-suc 2 k) (omega arith)

pub reversed_below : (k n : ℕ) → reversed k n < 2 ^ k
unfolding reversed
reversed_below zero n = omega arith
reversed_below (suc k) n =
    let h : n % 2 < 2 = omega arith in
    let b : n % 2 * 2 ^ k + reversed k (n / 2) < 2 ^ k * 2 = mul-add-lt (n % 2) (2 ^ k) (reversed k (n / 2)) 2 h (reversed_below k (n / 2)) in
    omega (arith, b, pow-suc 2 k)

-- the low j bits come first
pub reversed_split : (j k n : ℕ) → reversed (j + k) n ≡ reversed j n * 2 ^ k + reversed k (n / 2 ^ j)
unfolding reversed
reversed_split zero k n =
    let e : 0 + k ≡ k = omega arith in
    let d : n / 1 ≡ n = omega arith in
    rw (e, d) (omega arith)
reversed_split (suc j) k n =
    let e : suc j + k ≡ suc (j + k) = omega arith in
    let d : n / 2 ^ suc j ≡ n / 2 / 2 ^ j = sym (shr-shr n 1 j ∙ ap (λ (x : ℕ). n / 2 ^ x) (omega arith)) in
    rw (e, d, add-mul (n % 2 * 2 ^ j) (reversed j (n / 2)) (2 ^ k), mul_assoc (n % 2) (2 ^ j) (2 ^ k), ← pow-add 2 j k) (omega (arith, reversed_split j k (n / 2)))

-- only the low k bits count
pub reversed_low : (k n : ℕ) → reversed k (n % 2 ^ k) ≡ reversed k n
unfolding reversed
reversed_low zero n = refl
reversed_low (suc k) n =
    let s : suc k ≡ k + 1 = omega arith in
    let half : n % 2 ^ suc k / 2 ≡ n / 2 % 2 ^ k = ap (λ (x : ℕ). n % 2 ^ x / 2) s ∙ field_of n k 1 in
    let bit : n % 2 ^ suc k % 2 ≡ n % 2 = omega (arith, mod-pow-add n k 1, ap (λ (x : ℕ). n % 2 ^ x) s) in
    rw (half, bit, reversed_low k (n / 2)) refl

-- a reversal with one more bit, by its last bit
pub reversed_last : (k n : ℕ) → reversed (k + 1) n ≡ reversed k n * 2 + n / 2 ^ k % 2
unfolding reversed
reversed_last k n = reversed_split k 1 n ∙ omega arith

-- the reversal of the reversal
pub reversed_twice : (k n : ℕ) → reversed k (reversed k n) ≡ n % 2 ^ k
unfolding reversed
reversed_twice zero n = omega arith
reversed_twice (suc k) n =
    let s : suc k ≡ k + 1 = omega arith in
    let below : reversed k (n / 2) < 2 ^ k = reversed_below k (n / 2) in
    let whole : ℕ = n % 2 * 2 ^ k + reversed k (n / 2) in
    let high : (n % 2 * 2 ^ k + reversed k (n / 2)) / 2 ^ k ≡ n % 2 = shr_high (n % 2) k (reversed k (n / 2)) below in
    let low : (n % 2 * 2 ^ k + reversed k (n / 2)) % 2 ^ k ≡ reversed k (n / 2) = mod_low (n % 2) k (reversed k (n / 2)) below in
    let back : reversed k (n % 2 * 2 ^ k + reversed k (n / 2)) ≡ n / 2 % 2 ^ k
    = sym (reversed_low k (n % 2 * 2 ^ k + reversed k (n / 2))) ∙ ap (reversed k) low ∙ reversed_twice k (n / 2) in
    let last : reversed (k + 1) (n % 2 * 2 ^ k + reversed k (n / 2)) ≡ n / 2 % 2 ^ k * 2 + n % 2
    = reversed_last k (n % 2 * 2 ^ k + reversed k (n / 2)) ∙ omega (arith, high, back) in
    ap (λ (x : ℕ). reversed x (n % 2 * 2 ^ k + reversed k (n / 2))) s ∙ last ∙ omega (arith, mod-pow-add n k 1, ap (λ (x : ℕ). n % 2 ^ x) s)
