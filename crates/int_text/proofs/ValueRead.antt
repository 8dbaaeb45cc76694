-- From the digits before the point to the value of the number.
use Rattle.std.proofs.Common.{◌≡◌, ◌⊎◌, ℕ, zero, suc, ◌+◌, ◌-◌, ◌*◌, ◌<◌, ◌≤◌, ◌^◌, Bool, true, false, List, ◌++◌, length, min, sym, ap, subst, ◌∙◌, inl, inr, arith, lit<}
use Rattle.std.specs.Prelude.{Result, Ok, Err, if◌then◌else◌}
use Rattle.std.specs.Str.Parse.{AllDigits, digits_value}
use Rattle.std.proofs.lemmas.Bool.{cases_lt}
use Rattle.std.proofs.lemmas.Nat.{pow-add}
use Rattle.std.proofs.Math.Nat.{mul-le-mul_left, pow-le-pow_right}
use Rattle.int_text.specs.declared.score.ScoreFault.{ScoreFault}
use Rattle.int_text.specs.declared.score.ScoreFault.TheVariants.{Malformed, NotWhole, TooLarge}
use Rattle.int_text.specs.Places.{kept, IsValueAt}
use Rattle.int_text.specs.Score.{IsValue}
use Rattle.int_text.proofs.Splits.{Split, split_at}
use Rattle.int_text.proofs.Wholes.{whole_ok, not_whole}

abbrev IsValueOf : ℕ → ℕ → ℕ → Result ℕ ScoreFault → Type 0
IsValueOf D up below (Ok n) = (D * 10 ^ up ≡ n * 10 ^ below) × (n ≤ 2 ^ 53)
IsValueOf D up below (Err Malformed) = ⊥
IsValueOf D up below (Err NotWhole) = (n : ℕ) → ¬ (D * 10 ^ up ≡ n * 10 ^ below)
IsValueOf D up below (Err TooLarge) = (n : ℕ) × (D * 10 ^ up ≡ n * 10 ^ below) × (2 ^ 53 < n)

-- the point stands among the digits, or far before them
point_within : (W F : List ℕ) (before up below : ℕ) (r : Result ℕ ScoreFault) (s : Split W F before) → before ≤ length W + length F →
    up + (length W + length F - before) ≤ below → (below ≡ up + (length W + length F - before)) ⊎ (s.K ≡ 0) → IsValueAt W F before r →
    IsValueOf (digits_value 10 (W ++ F)) up below r
point_within W F before up below (Ok n) s within le how v =
    let x : before - (length W + length F) ≡ 0 = omega arith in
    let is : n ≡ s.K = v.1 ∙ s.kept_is ∙ ap (λ k. s.K * 10 ^ k) x ∙ omega arith in
    (whole_ok (digits_value 10 (W ++ F)) s.K s.R (length W + length F - before) up below s.whole_is (s.none v.0) how ∙ ap (λ k. k * 10 ^ below) (sym is), v.2)
point_within W F before up below (Err Malformed) s within le how v = v
point_within W F before up below (Err NotWhole) s within le how v =
    not_whole (digits_value 10 (W ++ F)) s.K s.R (length W + length F - before) up below s.whole_is s.small le (s.some v)
point_within W F before up below (Err TooLarge) s within le how v =
    let x : before - (length W + length F) ≡ 0 = omega arith in
    let is : kept W F before ≡ s.K = s.kept_is ∙ ap (λ k. s.K * 10 ^ k) x ∙ omega arith in
    (s.K, whole_ok (digits_value 10 (W ++ F)) s.K s.R (length W + length F - before) up below s.whole_is (s.none v.0) how, subst (λ k. 2 ^ 53 < k) is v.1)

-- no digit stands behind the point: zeros follow, and their number may have been cut
same_zeros : (k x t : ℕ) → (x ≡ t) ⊎ ((17 ≤ x) × (x ≤ t)) → k * 10 ^ x ≤ 2 ^ 53 → k * 10 ^ x ≡ k * 10 ^ t
same_zeros k x t (inl same) small = ap (λ e. k * 10 ^ e) same
same_zeros zero x t (inr cut) small = omega arith
same_zeros (suc k) x t (inr cut) small =
    let p : 10 ^ 17 ≤ 10 ^ x = pow-le-pow_right {n = 10} (lit< tt) cut.0 in
    let q : suc k * 10 ^ x ≡ k * 10 ^ x + 10 ^ x = omega arith in
    absurd (omega (arith, p, q))

more_zeros : (k x t : ℕ) → (x ≡ t) ⊎ ((17 ≤ x) × (x ≤ t)) → k * 10 ^ x ≤ k * 10 ^ t
more_zeros k x t (inl same) = omega (arith, ap (λ e. k * 10 ^ e) same)
more_zeros k x t (inr cut) = mul-le-mul_left k (pow-le-pow_right {n = 10} (lit< tt) cut.1)

point_behind : (W F : List ℕ) (before power : ℕ) (r : Result ℕ ScoreFault) (s : Split W F before) → length W + length F ≤ before → length F ≤ power →
    (before - (length W + length F) ≡ power - length F) ⊎ ((17 ≤ before - (length W + length F)) × (before - (length W + length F) ≤ power - length F)) → IsValueAt W F before r →
    IsValueOf (digits_value 10 (W ++ F)) power (length F) r
point_behind W F before power r s behind room how v = by r v
  where
    t : ℕ
    t = power - length F

    no_rest_left : s.R ≡ 0
    no_rest_left = let e : length W + length F - before ≡ 0 = omega arith in let small : s.R < 10 ^ 0 = subst (λ k. s.R < 10 ^ k) e s.small in omega arith

    whole : digits_value 10 (W ++ F) * 10 ^ power ≡ s.K * 10 ^ (power - length F) * 10 ^ length F
    whole =
        let e : length W + length F - before ≡ 0 = omega arith in
        let d : digits_value 10 (W ++ F) ≡ s.K = s.whole_is ∙ ap (λ k. s.K * 10 ^ k + s.R) e ∙ ap (λ k. s.K * 10 ^ 0 + k) no_rest_left ∙ omega arith in
        let p : power ≡ (power - length F) + length F = omega arith in
        let q : 10 ^ power ≡ 10 ^ (power - length F) * 10 ^ length F = ap (λ k. 10 ^ k) p ∙ pow-add 10 (power - length F) (length F) in
        let m : digits_value 10 (W ++ F) * 10 ^ power ≡ s.K * (10 ^ (power - length F) * 10 ^ length F) = ap (λ k. k * 10 ^ power) d ∙ ap (λ k. s.K * k) q in
        omega (arith, m)

    by : (r : Result ℕ ScoreFault) → IsValueAt W F before r → IsValueOf (digits_value 10 (W ++ F)) power (length F) r
    by (Ok n) v =
        let is : n ≡ s.K * 10 ^ (before - (length W + length F)) = v.1 ∙ s.kept_is in
        let small : s.K * 10 ^ (before - (length W + length F)) ≤ 2 ^ 53 = subst (λ k. k ≤ 2 ^ 53) is v.2 in
        let same : n ≡ s.K * 10 ^ (power - length F) = is ∙ same_zeros s.K (before - (length W + length F)) (power - length F) how small in
        (whole ∙ ap (λ k. k * 10 ^ length F) (sym same), v.2)
    by (Err Malformed) v = v
    by (Err NotWhole) v = absurd (s.some v no_rest_left)
    by (Err TooLarge) v =
        let large : 2 ^ 53 < s.K * 10 ^ (before - (length W + length F)) = subst (λ k. 2 ^ 53 < k) s.kept_is v.1 in
        let more : s.K * 10 ^ (before - (length W + length F)) ≤ s.K * 10 ^ (power - length F) = more_zeros s.K (before - (length W + length F)) (power - length F) how in
        (s.K * 10 ^ (power - length F), whole, omega (arith, large, more))

as_value : (W F : List ℕ) (divides : Bool) (power : ℕ) (r : Result ℕ ScoreFault) →
    IsValueOf (digits_value 10 (W ++ F)) (if divides then 0 else power) (length F + (if divides then power else 0)) r → IsValue (record { whole = W; fraction = F; divides = divides; power = power }) r
as_value W F divides power (Ok n) v = v
as_value W F divides power (Err Malformed) v = v
as_value W F divides power (Err NotWhole) v = v
as_value W F divides power (Err TooLarge) v = v

pub value_read : (W F : List ℕ) (divides : Bool) (power capped before : ℕ) (r : Result ℕ ScoreFault) → AllDigits 10 W → AllDigits 10 F → length W + length F + 17 < 2 ^ 64 →
    capped ≡ min power (2 ^ 64 - 1) → before ≡ (if divides then length W - capped else min (length W + capped) (2 ^ 64 - 1)) → IsValueAt W F before r →
    IsValue (record { whole = W; fraction = F; divides = divides; power = power }) r
value_read W F true power capped before r w f room cap is v =
    let s = split_at W F before w f in
    as_value W F true power r
    (point_within W F before 0 (length F + power) r s (omega arith) (omega arith)
    (elim (cases_lt (length W) capped) [
      | inl far ↦ inr (s.first (omega arith))
      | inr near ↦ elim (cases_lt 0 (length W)) [
        | inl some ↦ inl (omega arith)
        | inr none ↦ inr (s.first (omega arith))
      ]
    ]) v)
value_read W F false power capped before r w f room cap is v =
    let s = split_at W F before w f in
    let below : length F + 0 ≡ length F = omega arith in
    as_value W F false power r
    (elim (cases_lt before (length W + length F)) [
      | inl within ↦ point_within W F before power (length F + 0) r s (omega arith) (omega arith) (inl (omega arith)) v
      | inr behind ↦
          subst (λ k. IsValueOf (digits_value 10 (W ++ F)) power k r) (sym below)
          (point_behind W F before power r s behind (omega arith)
          (elim (cases_lt (length W + capped) (2 ^ 64 - 1)) [ inl exact ↦ inl (omega arith) | inr cut ↦ inr (omega arith, omega arith) ]) v)
    ])
