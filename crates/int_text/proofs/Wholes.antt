-- When digits over a power of ten are a whole number.
use Rattle.std.proofs.Common.{◌≡◌, ◌≢◌, ℕ, suc, ◌+◌, ◌-◌, ◌*◌, ◌<◌, ◌≤◌, ◌^◌, ◌⊎◌, List, [], ◌∷◌, ◌++◌, length, refl, sym, ap, ◌∙◌, inl, inr, arith, lit<}
use Rattle.std.specs.Char.{digit_value}
use Rattle.std.specs.Str.Parse.{digits_value, digits_value_after}
use Rattle.std.proofs.lemmas.Bool.{cases_lt}
use Rattle.std.proofs.lemmas.Nat.{pow-add}
use Rattle.std.proofs.Math.Nat.{one-le-pow, mul-le-mul_right, eq_of_mul-eq-mul_right}

-- what is read before more digits moves by a place for each of them
pub value_after_is : (n : ℕ) (ds : List ℕ) → digits_value_after 10 n ds ≡ n * 10 ^ length ds + digits_value 10 ds
value_after_is n [] = omega arith
value_after_is n (c ∷ cs) =
    let one = value_after_is (n * 10 + digit_value c) cs in
    let two = value_after_is (0 * 10 + digit_value c) cs in
    let p : 10 ^ length (c ∷ cs) ≡ 10 * 10 ^ length cs = pow_suc (length cs) in
    let a : (n * 10 + digit_value c) * 10 ^ length cs ≡ n * (10 * 10 ^ length cs) + digit_value c * 10 ^ length cs = omega arith in
    let b : (0 * 10 + digit_value c) * 10 ^ length cs ≡ digit_value c * 10 ^ length cs = omega arith in
    one ∙ ap (λ k. k + digits_value 10 cs) a ∙ shuffle (n * (10 * 10 ^ length cs)) (digit_value c * 10 ^ length cs) (digits_value 10 cs)
    ∙ ap (λ k. k + (digit_value c * 10 ^ length cs + digits_value 10 cs)) (ap (λ k. n * k) (sym p))
    ∙ ap (λ k. n * 10 ^ length (c ∷ cs) + k) (ap (λ k. k + digits_value 10 cs) (sym b) ∙ sym two)
  where
    shuffle : (x y z : ℕ) → x + y + z ≡ x + (y + z)
    shuffle x y z = omega arith

    pow_suc : (k : ℕ) → 10 ^ suc k ≡ 10 * 10 ^ k
    pow_suc k = ap (λ e. 10 ^ e) (let e : suc k ≡ 1 + k = omega arith in e) ∙ pow-add 10 1 k

pub value_append : (xs ys : List ℕ) → digits_value 10 (xs ++ ys) ≡ digits_value 10 xs * 10 ^ length ys + digits_value 10 ys
value_append xs ys = after-append 0 xs ys ∙ value_after_is (digits_value 10 xs) ys
  where
    after-append : (n : ℕ) (xs ys : List ℕ) → digits_value_after 10 n (xs ++ ys) ≡ digits_value_after 10 (digits_value_after 10 n xs) ys
    after-append n [] ys = refl
    after-append n (c ∷ cs) ys = after-append (n * 10 + digit_value c) cs ys

-- two numbers with rests below a power that are as many times the power are the same, and no rest is left of one without
pub no_rest : (k rest m p : ℕ) → rest < p → k * p + rest ≡ m * p → rest ≡ 0
no_rest k rest m p small e =
    elim (cases_lt k m) [
      | inl less ↦
          let step : suc k * p ≤ m * p = mul-le-mul_right p less in
          let s : suc k * p ≡ k * p + p = omega arith in
          absurd (omega (arith, step, s, e, small))
      | inr more ↦
          let step : m * p ≤ k * p = mul-le-mul_right p more in
          omega (arith, step, e)
    ]

pub ten_pos : (k : ℕ) → 0 < 10 ^ k
ten_pos k = omega (arith, one-le-pow k 10 (lit< tt))

-- The digits are K, and behind them the last r ones, whose number is R; up and below are the powers of ten.
module _ (D K R r up below : ℕ) (whole_is : D ≡ K * 10 ^ r + R) where
  pub whole_ok : R ≡ 0 → (below ≡ up + r) ⊎ (K ≡ 0) → D * 10 ^ up ≡ K * 10 ^ below
  whole_ok none (inl same) =
      let d : D ≡ K * 10 ^ r = omega arith in
      let p : K * 10 ^ below ≡ K * (10 ^ up * 10 ^ r) = ap (λ k. K * 10 ^ k) same ∙ ap (λ k. K * k) (pow-add 10 up r) in
      let e : D * 10 ^ up ≡ K * 10 ^ r * 10 ^ up = ap (λ k. k * 10 ^ up) d in
      omega (arith, e, p)
  whole_ok none (inr nothing) =
      let d : D ≡ 0 = whole_is ∙ ap (λ k. k * 10 ^ r + R) nothing ∙ omega arith in
      let a : D * 10 ^ up ≡ 0 * 10 ^ up = ap (λ k. k * 10 ^ up) d in
      let b : K * 10 ^ below ≡ 0 * 10 ^ below = ap (λ k. k * 10 ^ below) nothing in
      omega (arith, a, b)

  pub not_whole : R < 10 ^ r → up + r ≤ below → R ≢ 0 → (n : ℕ) → D * 10 ^ up ≢ n * 10 ^ below
  not_whole small le some n e =
      let s = below - (up + r) in
      let b : below ≡ s + (r + up) = omega arith in
      let p : n * 10 ^ below ≡ n * (10 ^ s * (10 ^ r * 10 ^ up)) =
      ap (λ k. n * 10 ^ k) b ∙ ap (λ k. n * k) (pow-add 10 s (r + up)) ∙ ap (λ k. n * (10 ^ s * k)) (pow-add 10 r up) in
      let q : n * (10 ^ s * (10 ^ r * 10 ^ up)) ≡ n * 10 ^ s * 10 ^ r * 10 ^ up = omega arith in
      let d : D ≡ n * 10 ^ s * 10 ^ r = eq_of_mul-eq-mul_right (10 ^ up) (ten_pos up) D (n * 10 ^ s * 10 ^ r) (e ∙ p ∙ q) in
      some (no_rest K R (n * 10 ^ s) (10 ^ r) small (sym whole_is ∙ d))
