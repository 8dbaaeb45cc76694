-- Digits split at the place of the point.
use Rattle.std.proofs.Common.{◌≡◌, ◌≢◌, ◌⊎◌, ℕ, zero, suc, ◌+◌, ◌-◌, ◌*◌, ◌<◌, ◌≤◌, ◌^◌, List, ◌++◌, length, take, drop, refl, sym, ap, subst, ◌∙◌, inl, inr, arith}
use Rattle.std.specs.Str.Parse.{AllDigits, digits_value, digits_value_after}
use Rattle.std.proofs.lemmas.Bool.{cases_lt}
use Rattle.std.proofs.lemmas.Nat.{pow-add}
use Rattle.std.proofs.lemmas.List.{take-append-drop, length-drop, length-take, take_all, drop_all}
use Rattle.std.proofs.lemmas.Int.Digits.{digits_value-lt}
use Rattle.std.proofs.Math.Nat.{mul-le-mul_right}
use Rattle.int_text.specs.Places.{whole_kept, fraction_kept, kept, IsNothingBehind}
use Rattle.int_text.proofs.Parts.{digits_drop}
use Rattle.int_text.proofs.Wholes.{value_after_is, value_append, ten_pos}

-- the digits before the point have the number K, the r digits behind it the number R
pub record Split (W F : List ℕ) (before : ℕ) : Type 0 where
  pub K : ℕ
  pub R : ℕ
  pub whole_is : digits_value 10 (W ++ F) ≡ K * 10 ^ (length W + length F - before) + R
  pub small : R < 10 ^ (length W + length F - before)
  pub kept_is : kept W F before ≡ K * 10 ^ (before - (length W + length F))
  pub none : IsNothingBehind W F before → R ≡ 0
  pub some : (digits_value 10 (drop (whole_kept W F before) W) ≢ 0) ⊎ (digits_value 10 (drop (fraction_kept W F before) F) ≢ 0) → R ≢ 0
  pub first : before ≡ 0 → K ≡ 0

-- a run of digits is its first n and the others
value_split : (n : ℕ) (ds : List ℕ) → digits_value 10 ds ≡ digits_value 10 (take n ds) * 10 ^ (length ds - n) + digits_value 10 (drop n ds)
value_split n ds =
    ap (digits_value 10) (sym (take-append-drop n ds)) ∙ value_append (take n ds) (drop n ds)
    ∙ ap (λ k. digits_value 10 (take n ds) * 10 ^ k + digits_value 10 (drop n ds)) (length-drop n ds)

-- the point stands in the whole part
in_whole : (W F : List ℕ) (before : ℕ) → AllDigits 10 W → AllDigits 10 F → before ≤ length W → Split W F before
in_whole W F before w f le =
    let wl = length W in
    let fl = length F in
    let wk : whole_kept W F before ≡ before = omega arith in
    let fk : fraction_kept W F before ≡ 0 = omega arith in
    let K = digits_value 10 (take before W) in
    let rest = digits_value 10 (drop before W) in
    let r : wl + fl - before ≡ (wl - before) + fl = omega arith in
    let p : 10 ^ (wl + fl - before) ≡ 10 ^ (wl - before) * 10 ^ fl = ap (λ k. 10 ^ k) r ∙ pow-add 10 (wl - before) fl in
    let split = value_split before W in
    let all = value_append W F in
    let below : rest < 10 ^ (wl - before) = subst (λ k. rest < 10 ^ k) (length-drop before W) (digits_value-lt 10 (drop before W) (digits_drop before W w)) in
    let step : suc rest * 10 ^ fl ≤ 10 ^ (wl - before) * 10 ^ fl = mul-le-mul_right (10 ^ fl) below in
    let one : suc rest * 10 ^ fl ≡ rest * 10 ^ fl + 10 ^ fl = omega arith in
    let frac : digits_value 10 F < 10 ^ fl = digits_value-lt 10 F f in
    let x : before - (wl + fl) ≡ 0 = omega arith in
    record {
      K = K;
      R = rest * 10 ^ fl + digits_value 10 F;
      whole_is =
          let a : digits_value 10 W * 10 ^ fl ≡ (K * 10 ^ (wl - before) + rest) * 10 ^ fl = ap (λ k. k * 10 ^ fl) split in
          let b : K * 10 ^ (wl + fl - before) ≡ K * (10 ^ (wl - before) * 10 ^ fl) = ap (λ k. K * k) p in
          omega (arith, all, a, b);
      small = omega (arith, step, one, frac, p);
      kept_is =
          ap (λ k. digits_value_after 10 (digits_value 10 (take k W)) (take (fraction_kept W F before) F) * 10 ^ (before - k - fraction_kept W F before)) wk
          ∙ ap (λ k. digits_value_after 10 K (take k F) * 10 ^ (before - before - k)) fk
          ∙ ap (λ k. K * 10 ^ k) (let e : before - before - 0 ≡ before - (wl + fl) = omega arith in e);
      none = λ n.
          let w0 : rest ≡ 0 = subst (λ k. digits_value 10 (drop k W) ≡ 0) wk n.of_whole in
          let f0 : digits_value 10 F ≡ 0 = subst (λ k. digits_value 10 (drop k F) ≡ 0) fk n.of_fraction in
          ap (λ k. k * 10 ^ fl + digits_value 10 F) w0 ∙ omega (arith, f0);
      some = λ s nothing.
          elim s [
            | inl a ↦ subst (λ k. digits_value 10 (drop k W) ≢ 0) wk a (no_product rest (10 ^ fl) (digits_value 10 F) (ten_pos fl) nothing)
            | inr b ↦ subst (λ k. digits_value 10 (drop k F) ≢ 0) fk b (omega (arith, nothing))
          ];
      first = λ e. ap (λ k. digits_value 10 (take k W)) e;
    }
  where
    no_product : (a p b : ℕ) → 0 < p → a * p + b ≡ 0 → a ≡ 0
    no_product zero p b some e = refl
    no_product (suc a) p b some e = let s : suc a * p ≡ a * p + p = omega arith in absurd (omega (arith, s, e))

-- the point stands behind the whole part
behind_whole : (W F : List ℕ) (before : ℕ) → AllDigits 10 W → AllDigits 10 F → length W < before → Split W F before
behind_whole W F before w f lt =
    let wl = length W in
    let fl = length F in
    let wk : whole_kept W F before ≡ wl = omega arith in
    let b = fraction_kept W F before in
    let V = digits_value 10 W in
    let T = digits_value 10 (take b F) in
    let R = digits_value 10 (drop b F) in
    let K = digits_value_after 10 V (take b F) in
    let r : wl + fl - before ≡ fl - b = omega (arith, wk) in
    let b_le : b ≤ fl = omega arith in
    let split = value_split b F in
    let all = value_append W F in
    let k_is : K ≡ V * 10 ^ b + T = value_after_is V (take b F) ∙ ap (λ k. V * 10 ^ k + T) (let e : length (take b F) ≡ b = omega (arith, length-take b F, b_le) in e) in
    let p : 10 ^ fl ≡ 10 ^ b * 10 ^ (fl - b) = ap (λ k. 10 ^ k) (let e : fl ≡ b + (fl - b) = omega (arith, b_le) in e) ∙ pow-add 10 b (fl - b) in
    record {
      K = K;
      R = R;
      whole_is =
          let a : K * 10 ^ (wl + fl - before) ≡ (V * 10 ^ b + T) * 10 ^ (fl - b) = ap (λ k. K * 10 ^ k) r ∙ ap (λ k. k * 10 ^ (fl - b)) k_is in
          let c : V * 10 ^ fl ≡ V * (10 ^ b * 10 ^ (fl - b)) = ap (λ k. V * k) p in
          omega (arith, all, split, a, c);
      small = subst (λ k. R < 10 ^ k) (length-drop b F ∙ sym r) (digits_value-lt 10 (drop b F) (digits_drop b F f));
      kept_is =
          ap (λ k. digits_value_after 10 (digits_value 10 (take k W)) (take b F) * 10 ^ (before - k - b)) wk
          ∙ ap (λ l. digits_value_after 10 (digits_value 10 l) (take b F) * 10 ^ (before - wl - b)) (take_all wl W (omega arith))
          ∙ ap (λ k. K * 10 ^ k) (let e : before - wl - b ≡ before - (wl + fl) = omega (arith, wk) in e);
      none = λ n. n.of_fraction;
      some = λ s nothing.
          elim s [
            | inl a ↦ a (subst (λ k. digits_value 10 (drop k W) ≡ 0) (sym wk) (ap (digits_value 10) (drop_all wl W (omega arith))))
            | inr c ↦ c nothing
          ];
      first = λ e. absurd (omega arith);
    }

pub split_at : (W F : List ℕ) (before : ℕ) → AllDigits 10 W → AllDigits 10 F → Split W F before
split_at W F before w f =
    elim (cases_lt (length W) before) [ inl lt ↦ behind_whole W F before w f lt | inr le ↦ in_whole W F before w f le ]
