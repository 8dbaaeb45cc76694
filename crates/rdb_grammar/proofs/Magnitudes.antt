-- Which exponents and fractions are those of scores.
use Rattle.std.proofs.Common.{◌≡◌, ◌⊎◌, inl, inr, ℕ, ◌+◌, ◌-◌, ◌*◌, ◌/◌, ◌%◌, ◌^◌, ◌<◌, ◌≤◌, true, false, refl, sym, ap, ◌∙◌, arith}
use Rattle.std.specs.Prelude.{nat_le, ◌==◌, ◌&&◌}
use Rattle.std.proofs.lemmas.Bool.{and_from, and_left, and_right, le-leb, lt-leb, ne_eqb, eq-eqb}
use Rattle.std.proofs.Math.Pow.{pow_mono}
use Rattle.std.proofs.Math.Nat.{mod-eq_of_lt, div-one, div-le_self, mul-le-mul}
use Rattle.rdb_grammar.specs.Scores.{over, under, is_zero, is_whole, is_taken, magnitude}

-- where it isn't 0 it is tested, and is one number over another
not_zero : (e f : ℕ) → is_zero e f ≡ false → (is_taken e f ≡ is_whole e f) × (magnitude e f ≡ over e f / under e)
not_zero e f h = (rw h refl, rw h refl)

-- an exponent that isn't 0 isn't that of 0
some : (e f : ℕ) → 1 ≤ e → is_zero e f ≡ false
some e f le = rw (ne_eqb e 0 (λ h. absurd (omega (arith, h, le)))) refl

pub never_zero : (e f : ℕ) → ((e ≡ 0) × (f ≡ 0 → ⊥)) ⊎ (e ≡ 0 → ⊥) → is_zero e f ≡ false
never_zero e f (inl h) = and_right (e == 0) _ (ne_eqb f 0 h.1)
never_zero e f (inr h) = and_left _ (f == 0) (ne_eqb e 0 h)

-- a part of a unit is left: the number is below one
pub low : (e f : ℕ) → is_zero e f ≡ false → e < 1023 → f < 2 ^ 52 → is_taken e f ≡ false
low e f h lt bound =
    let wide : 2 ^ 53 ≤ under e = pow_mono {i = 53} {j = 1075 - e} (omega (arith, lt)) in
    let none : e - 1075 ≡ 0 = omega (arith, lt) in
    let one : over e f ≡ 2 ^ 52 + f = ap (λ (k : ℕ). (2 ^ 52 + f) * 2 ^ k) none ∙ omega arith in
    let left : over e f % under e ≡ 2 ^ 52 + f = mod-eq_of_lt (omega (arith, one, wide, bound)) ∙ one in
    let some : (over e f % under e == 0) ≡ false = ne_eqb (over e f % under e) 0 (λ z. absurd (omega (arith, z, left))) in
    (not_zero e f h).0 ∙ and_left _ _ (and_right (nat_le 1 e && nat_le e 2046) _ some)

-- the number passes 2 ^ 53, whatever the fraction
pub high : (e f : ℕ) → 1076 < e → is_taken e f ≡ false
high e f lt =
    let wide : 2 ^ 2 ≤ 2 ^ (e - 1075) = pow_mono {i = 2} {j = e - 1075} (omega (arith, lt)) in
    let none : 1075 - e ≡ 0 = omega (arith, lt) in
    let one : under e ≡ 1 = ap (λ (k : ℕ). 2 ^ k) none in
    let first : 2 ^ 52 ≤ 2 ^ 52 + f = omega arith in
    let least : 2 ^ 52 * 2 ^ 2 ≤ over e f = mul-le-mul first wide in
    let whole : over e f / under e ≡ over e f = ap (λ (k : ℕ). over e f / k) one ∙ div-one (over e f) in
    let past : nat_le (over e f / under e) (2 ^ 53) ≡ false = lt-leb (over e f / under e) (2 ^ 53) (omega (arith, whole, least)) in
    (not_zero e f (some e f (omega (arith, lt)))).0 ∙ and_right (nat_le 1 e && nat_le e 2046 && (over e f % under e == 0)) _ past

-- from 2 ^ 53 on it is that number alone
pub top_none : (f : ℕ) → 0 < f → is_taken 1076 f ≡ false
top_none f lt =
    let past : nat_le (over 1076 f / under 1076) (2 ^ 53) ≡ false = lt-leb (over 1076 f / under 1076) (2 ^ 53) (omega (arith, div-one (over 1076 f), lt)) in
    (not_zero 1076 f (some 1076 f (omega arith))).0 ∙ and_right (nat_le 1 1076 && nat_le 1076 2046 && (over 1076 f % under 1076 == 0)) _ past

pub top_some : (is_taken 1076 0 ≡ true) × (2 ^ 53 ≡ magnitude 1076 0)
top_some = (refl, refl)

-- between them it is the fraction with its first bit, over the unit
middle : (e f : ℕ) → e ≤ 1075 → over e f ≡ 2 ^ 52 + f
middle e f le =
    let none : e - 1075 ≡ 0 = omega (arith, le) in
    ap (λ (k : ℕ). (2 ^ 52 + f) * 2 ^ k) none ∙ omega arith

pub middle_none : (e f : ℕ) → 1023 ≤ e → e ≤ 1075 → 0 < (2 ^ 52 + f) % 2 ^ (1075 - e) → is_taken e f ≡ false
middle_none e f from to lt =
    let left : over e f % under e ≡ (2 ^ 52 + f) % 2 ^ (1075 - e) = ap (λ (k : ℕ). k % under e) (middle e f to) in
    let part : (over e f % under e == 0) ≡ false = ne_eqb (over e f % under e) 0 (λ z. absurd (omega (arith, z, left, lt))) in
    (not_zero e f (some e f (omega (arith, from)))).0 ∙ and_left _ _ (and_right (nat_le 1 e && nat_le e 2046) _ part)

pub middle_some : (e f : ℕ) → f < 2 ^ 52 → 1023 ≤ e → e ≤ 1075 → (2 ^ 52 + f) % 2 ^ (1075 - e) ≡ 0
    → (is_taken e f ≡ true) × ((2 ^ 52 + f) / 2 ^ (1075 - e) ≡ magnitude e f)
middle_some e f bound from to z =
    let same : over e f ≡ 2 ^ 52 + f = middle e f to in
    let left : (over e f % under e == 0) ≡ true = eq-eqb (over e f % under e) 0 (ap (λ (k : ℕ). k % under e) same ∙ z) in
    let fits : nat_le (over e f / under e) (2 ^ 53) ≡ true = le-leb (over e f / under e) (2 ^ 53) (omega (arith, same, div-le_self (over e f) (under e), bound)) in
    let is = not_zero e f (some e f (omega (arith, from))) in (
      is.0 ∙ and_from (nat_le 1 e && nat_le e 2046 && (over e f % under e == 0)) _
          (and_from (nat_le 1 e && nat_le e 2046) _ (and_from (nat_le 1 e) (nat_le e 2046) (le-leb 1 e (omega (arith, from))) (le-leb e 2046 (omega (arith, to)))) left) fits,
      ap (λ (k : ℕ). k / under e) (sym same) ∙ sym is.1,
    )
