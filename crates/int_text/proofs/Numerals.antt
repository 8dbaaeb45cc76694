-- Decimal digits, read from the left.
use Rattle.std.proofs.Common.{◌≡◌, ◌≢◌, ℕ, ◌+◌, ◌*◌, ◌<◌, ◌≤◌, ◌^◌, List, [], ◌∷◌, length, drop, get_or, sym, ap, subst, ◌∙◌, inl, inr, arith, lit<}
use Rattle.std.specs.Prelude.{Option, Some, None, SomeIff, IfSome, IfNone}
use Rattle.std.specs.Fmt.{decimal}
use Rattle.std.specs.Char.{digit_value}
use Rattle.std.specs.Str.Parse.{AllDigits, digits_value, digits_value_after}
use Rattle.int_text.specs.Decimal.{IsU64Text}
use Rattle.std.proofs.lemmas.Bool.{cases_lt}
use Rattle.std.proofs.lemmas.List.{drop_more}
use Rattle.std.proofs.lemmas.Str.Parse.{numerals_by_value, tells_digits}
use Rattle.std.proofs.lemmas.Fmt.{decimal-digits_value, decimal_is_IsNumeral, decimal_digit, first_decimal}

pub value_step : (n : ℕ) (ds : List ℕ) (i : ℕ) → i < length ds → digits_value_after 10 n (drop i ds) ≡ digits_value_after 10 (n * 10 + digit_value (get_or ds i 0)) (drop (i + 1) ds)
value_step n ds i h = ap (digits_value_after 10 n) (drop_more ds i 0 h)

pub digits_split : (ds : List ℕ) (i : ℕ) → i < length ds → AllDigits 10 (drop i ds) → (digit_value (get_or ds i 0) < 10) × AllDigits 10 (drop (i + 1) ds)
digits_split ds i h all = subst (AllDigits 10) (drop_more ds i 0 h) all

pub digits_join : (ds : List ℕ) (i : ℕ) → i < length ds → digit_value (get_or ds i 0) < 10 → AllDigits 10 (drop (i + 1) ds) → AllDigits 10 (drop i ds)
digits_join ds i h one rest = subst (AllDigits 10) (sym (drop_more ds i 0 h)) (one, rest)

-- more digits never make less
pub value_grows : (n : ℕ) (ds : List ℕ) → n ≤ digits_value_after 10 n ds
value_grows n [] = omega arith
value_grows n (c ∷ cs) = omega (arith, value_grows (n * 10 + digit_value c) cs)

-- a number that has grown too large belongs to no text of a number below 2^64
pub too_large : (text : List ℕ) (i n : ℕ) → i < length text → digits_value_after 10 n (drop i text) ≡ digits_value 10 text → 2 ^ 64 ≤ n * 10 + digit_value (get_or text i 0) → ¬ (IsU64Text text)
too_large text i n h value large is =
    omega (arith, value_grows (n * 10 + digit_value (get_or text i 0)) (drop (i + 1) text), value_step n text i h, value, is.1)

-- digits without a leading zero are the decimal text of their number
pub is_decimal : (r : Option ℕ) (text : List ℕ) → (get_or text 0 0 ≡ 48 → length text ≡ 1) → SomeIff r (IsU64Text text) (digits_value 10 text) → IfSome r (λ n. text ≡ decimal n)
is_decimal None text one h = tt
is_decimal (Some n) text one h =
    sym (decimal-digits_value (numerals_by_value (AllDigits 10) tells_digits) text h.0.0.1 h.0.0.0 one h.0.1) ∙ ap decimal (sym h.1)

-- what is no number below 2^64 is the text of none
pub no_decimal : (r : Option ℕ) (text : List ℕ) → SomeIff r (IsU64Text text) (digits_value 10 text) → IfNone r ((n : ℕ) → n < 2 ^ 64 → text ≢ decimal n)
no_decimal (Some n) text h = tt
no_decimal None text h = λ n small is.
    let d = decimal_is_IsNumeral n small in
    let fits : IsU64Text (decimal n) = (d.0, omega (arith, d.1)) in
    h (subst IsU64Text (sym is) fits)

pub no_zero : (text : List ℕ) (m : ℕ) → m < 2 ^ 64 → get_or text 0 0 ≡ 48 → 1 < length text → text ≢ decimal m
no_zero text m fits first long is =
    elim (cases_lt m 1) [
      | inl none ↦
          let z : m ≡ 0 = omega arith in
          let one : decimal m ≡ 48 ∷ [] = ap decimal z ∙ decimal_digit 0 (lit< tt) in
          omega (arith, ap length (is ∙ one))
      | inr some ↦ omega (arith, first_decimal m some fits, ap (λ l. get_or l 0 0) is)
    ]

pub short_zero : (text : List ℕ) → length text < 2 → get_or text 0 0 ≡ 48 → length text ≡ 1
short_zero [] short zero = absurd (omega arith)
short_zero (c ∷ cs) short zero = omega arith
