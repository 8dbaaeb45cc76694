-- Digits, and texts that aren't numbers.
use Rattle.std.proofs.Common.{◌≡◌, ℕ, ◌+◌, ◌-◌, ◌*◌, ◌<◌, ◌≤◌, ◌^◌, ◌⊎◌, List, [], ◌∷◌, length, take, drop, get_or, sym, ap, subst, ◌∙◌, inl, inr, arith, length-take, lit<, lit≤}
use Rattle.std.specs.Fmt.{decimal}
use Rattle.std.specs.Int.{IsInRange}
use Rattle.std.specs.Prelude.{IsTrue}
use Rattle.resp_frames.specs.Frames.{is_negative, most_words}
use Rattle.resp_frames.specs.Faults.{IsCount}
use Rattle.plain_world.proofs.Numerals.{AreDigits, read_on, own, zero_text}
use Rattle.std.proofs.lemmas.Fmt.{digits_decimal, digits_value-decimal, decimal-digits_value, decimal_nonempty, first_decimal, decimal_digit}
use Rattle.std.proofs.lemmas.Bool.{cases_lt}
use Rattle.std.proofs.lemmas.List.{get_or-take, drop_more}

pub no_more : (text : List ℕ) (m most : ℕ) → m ≤ most → most < 2 ^ 32 → most < read_on 0 text → text ≡ decimal m → ⊥
no_more text m most le small over is =
    let fits : m < 2 ^ 64 = omega arith in
    let v : read_on 0 (decimal m) ≡ m = digits_value-decimal own m fits in
    let e : read_on 0 text ≡ m = ap (read_on 0) is ∙ v in
    omega arith

pub no_digit : (text : List ℕ) (m i : ℕ) → m < 2 ^ 32 → i < length text → (get_or text i 0 < 48) ⊎ (57 < get_or text i 0) → text ≡ decimal m → ⊥
no_digit text m i small h other is =
    let fits : m < 2 ^ 64 = omega arith in
    let P : List ℕ → Type 0 = AreDigits in
    let d : AreDigits text = subst P (sym is) (digits_decimal own m fits) in
    let r = d i h in
    elim other [ inl a ↦ omega (arith, r) | inr a ↦ omega (arith, r) ]

pub no_zero : (text : List ℕ) (m : ℕ) → m < 2 ^ 32 → get_or text 0 0 ≡ 48 → 1 < length text → text ≡ decimal m → ⊥
no_zero text m small first long is =
    let fits : m < 2 ^ 64 = omega arith in
    elim (cases_lt m 1) [
      | inl none ↦
          let z : m ≡ 0 = omega arith in
          let one : decimal m ≡ 48 ∷ [] = ap decimal z ∙ decimal_digit 0 (lit< tt) in
          omega (arith, ap length (is ∙ one))
      | inr some ↦ omega (arith, first_decimal m some fits, ap (λ l. get_or l 0 0) is)
    ]

pub zero_is : (text : List ℕ) → get_or text 0 0 ≡ 48 → length text ≡ 1 → text ≡ decimal 0
zero_is [] first one = absurd (omega arith)
zero_is (b ∷ []) first one = ap (λ c. c ∷ []) first ∙ sym (decimal_digit 0 (lit< tt))
zero_is (b ∷ c ∷ cs) first one = absurd (omega arith)

pub digits_more : (ds : List ℕ) (i : ℕ) → i < length ds → AreDigits (take i ds) → 48 ≤ get_or ds i 0 → get_or ds i 0 ≤ 57 → AreDigits (take (i + 1) ds)
digits_more ds i h before low high k lt =
    elim (cases_lt k i) [
      | inl below ↦
          let lt' : k < length (take i ds) = omega (arith, length-take i ds) in
          let b = before k lt' in
          let e : get_or (take (i + 1) ds) k 0 ≡ get_or (take i ds) k 0 = get_or-take (i + 1) ds k 0 (omega arith) ∙ sym (get_or-take i ds k 0 below) in
          subst (IsInRange 48 57) (sym e) b
      | inr above ↦
          let is : k ≡ i = omega (arith, length-take (i + 1) ds) in
          let e : get_or (take (i + 1) ds) k 0 ≡ get_or ds i 0 = get_or-take (i + 1) ds k 0 (omega arith) ∙ ap (λ j. get_or ds j 0) is in
          subst (IsInRange 48 57) (sym e) (low, high)
    ]

pub step_on : (n : ℕ) (ds : List ℕ) (i : ℕ) → i < length ds → read_on n (drop i ds) ≡ read_on (n * 10 + (get_or ds i 0 - 48)) (drop (i + 1) ds)
step_on n ds i h = ap (read_on n) (drop_more ds i 0 h)

pub no_bytes : (text : List ℕ) (m : ℕ) → m < 2 ^ 32 → length text ≡ 0 → text ≡ decimal m → ⊥
no_bytes text m small none is =
    let fits : m < 2 ^ 64 = omega arith in
    omega (arith, decimal_nonempty m fits, ap length is)

pub read_whole : (text : List ℕ) → AreDigits text → 0 < length text → (get_or text 0 0 ≡ 48 → length text ≡ 1) → read_on 0 text < 2 ^ 64 → text ≡ decimal (read_on 0 text)
read_whole text ds some zero fits = sym (decimal-digits_value own text ds some zero fits)

pub no_count : (text : List ℕ) → (IsTrue (is_negative text) → ⊥) → ((n : ℕ) → n ≤ most_words → text ≡ decimal n → ⊥) → IsCount text → ⊥
no_count text negative none h = elim h [
  | inl less ↦ elim less [ inl zero ↦ none 0 (lit≤ tt) (zero ∙ sym zero_text) | inr n ↦ negative n ]
  | inr p ↦ none p.0 p.1 p.2
]
