-- The number of a text is what reading it answers.
use Rattle.std.proofs.Common.{◌≡◌, ◌⊎◌, inl, inr, ℕ, suc, ◌^◌, ◌<◌, List, [], ◌∷◌, length, drop, Option, Some, None, Bool, true, false, cond, refl, sym, ap, subst, ◌∙◌, arith}
use Rattle.std.specs.Prelude.{ℤ, pos, negsuc, neg_ℤ, FitsSigned, bytes_eq, ◌&&◌, ◌==◌, if◌then◌else◌}
use Rattle.std.specs.Int.{w64}
use Rattle.std.specs.Fmt.{decimal}
use Rattle.std.specs.Str.Parse.{AllDigits, digits_value, signed_digits_value}
use Rattle.std.proofs.lemmas.Bool.{ne_eqb}
use Rattle.std.proofs.lemmas.Bool.Decides.{Decides-ltb}
use Rattle.std.proofs.lemmas.Slice.Eq.{bytes_eq-Decides}
use Rattle.std.proofs.lemmas.Str.Parse.{digit_from_value}
use Rattle.std.proofs.lemmas.Fmt.{decimal_is_IsNumeral}
use lib.Signed.{mag}
use Rattle.int_text.specs.Decimal.{canonical, IsI64Text, Reads, is_i64, number_of}

-- digits without a sign
unsigned : (ds : List ℕ) → AllDigits 10 ds → 0 < length ds → signed_digits_value 10 ds ≡ pos (digits_value 10 ds)
unsigned [] d some = absurd (omega arith)
unsigned (c ∷ cs) d some =
    let digit = digit_from_value c d.0 in
    let minus : (c == 45) ≡ false = ne_eqb c 45 (λ e. omega (arith, digit)) in
    let plus : (c == 43) ≡ false = ne_eqb c 43 (λ e. omega (arith, digit)) in
    let value : Bool → Bool → ℤ = λ m p.
    let ds : List ℕ = cond m cs (drop (cond p 1 0) (c ∷ cs)) in
    cond m (neg_ℤ (pos (digits_value 10 ds))) (pos (digits_value 10 ds)) in
    ap (λ m. value m (c == 43)) minus ∙ ap (λ p. value false p) plus

pub value_back : (n : ℤ) → FitsSigned w64 n → signed_digits_value 10 (canonical n) ≡ n
value_back (pos n) fits =
    let numeral = decimal_is_IsNumeral n (omega (arith, fits.sfits)) in
    unsigned (decimal n) numeral.0.1 numeral.0.0 ∙ ap pos numeral.1
value_back (negsuc n) fits = ap (λ k. neg_ℤ (pos k)) (decimal_is_IsNumeral (suc n) (omega (arith, fits.sfits))).1

fits_from : (n : ℤ) → is_i64 n ≡ true → FitsSigned w64 n
fits_from n h = record { sfits = (Decides-ltb (mag n) (2 ^ 63)).0 h }

pub fits_to : (n : ℤ) → FitsSigned w64 n → is_i64 n ≡ true
fits_to n h = (Decides-ltb (mag n) (2 ^ 63)).1 h.sfits

-- a number is that of its own text
pub number_back : (n : ℤ) → FitsSigned w64 n → number_of (canonical n) ≡ Some n
number_back n fits =
    let P : ℤ → Type 0 = λ z. (if bytes_eq (canonical z) (canonical n) && is_i64 z then Some z else None) ≡ Some n in
    let same = (bytes_eq-Decides (canonical n) (canonical n)).1 refl in
    let few = fits_to n fits in
    subst P (sym (value_back n fits)) cc

-- a text is that of a number, or of none
cases_by : (text : List ℕ) (n : ℤ) (a b : Bool) → bytes_eq (canonical n) text ≡ a → is_i64 n ≡ b
    → ((if bytes_eq (canonical n) text && is_i64 n then Some n else None) ≡ None)
    ⊎ (((if bytes_eq (canonical n) text && is_i64 n then Some n else None) ≡ Some n) × FitsSigned w64 n × (text ≡ canonical n))
cases_by text n true true e f = inr (rw (e, f) refl, fits_from n f, sym ((bytes_eq-Decides (canonical n) text).0 e))
cases_by text n true false e f = inl (rw (e, f) refl)
cases_by text n false b e f = inl (rw e refl)

pub number_cases : (text : List ℕ) → (number_of text ≡ None) ⊎ ((n : ℤ) × (number_of text ≡ Some n) × FitsSigned w64 n × (text ≡ canonical n))
number_cases text = elim (cases_by text (signed_digits_value 10 text) (bytes_eq (canonical (signed_digits_value 10 text)) text) (is_i64 (signed_digits_value 10 text)) refl refl) [
  | inl none ↦ inl none
  | inr some ↦ inr (signed_digits_value 10 text, some.0, some.1, some.2)
]

no_number : (text : List ℕ) → ¬ (IsI64Text text) → number_of text ≡ None
no_number text none = elim (number_cases text) [ inl is_none ↦ is_none | inr some ↦ absurd (none (some.0, some.2, some.3)) ]

-- what reading a text answers is its number
pub reads_number_of : (text : List ℕ) (answer : Option ℤ) → Reads text answer → number_of text ≡ answer
reads_number_of text (Some n) h = ap number_of h.0.1 ∙ number_back n h.0.0
reads_number_of text None h = no_number text h.1

pub no_fit : (n : ℤ) → ¬ (FitsSigned w64 n) → is_i64 n ≡ false
no_fit n large =
    elim (is_i64 n) as (λ b. is_i64 n ≡ b → b ≡ false) [ false ↦ λ e. refl | true ↦ λ e. absurd (large (fits_from n e)) ] refl
