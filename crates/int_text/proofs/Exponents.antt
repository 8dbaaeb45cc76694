-- Exponents of score texts.
use Rattle.std.proofs.Common.{◌≡◌, ◌≢◌, ◌⊎◌, ℕ, ◌<◌, Bool, true, false, List, [], ◌∷◌, ◌++◌, length, drop, get_or, refl, sym, ap, subst, inl, inr, arith}
use Rattle.std.specs.Prelude.{Option, Some, None}
use Rattle.std.specs.Char.{digit_value}
use Rattle.std.specs.Str.Parse.{AllDigits, IsNumeral, digits_value}
use Rattle.std.proofs.lemmas.List.{length-drop}
use Rattle.int_text.specs.declared.value.Exponent.{Exponent}
use Rattle.int_text.specs.Digits.{StopsDigits}
use Rattle.int_text.specs.Parts.{capped, IsPowerRead, IsSignedPowerRead, IsExponentRead}
use Rattle.int_text.specs.Score.{IsSign, no_sign, plus, minus, IsExponent, no_exponent, exponent}
use Rattle.int_text.proofs.Parts.{digits_drop}

pub no_digits : (ds : List ℕ) → 0 < length ds → StopsDigits ds → ¬ (AllDigits 10 ds)
no_digits [] some stops all = omega arith
no_digits (c ∷ cs) some stops all = let first : digit_value c < 10 = all.0 in omega (arith, stops)

pub no_numeral : (ds : List ℕ) (n : ℕ) → n < length ds → StopsDigits (drop n ds) → ¬ (IsNumeral 10 ds)
no_numeral ds n within stops numeral = no_digits (drop n ds) (omega (arith, length-drop n ds)) stops (digits_drop n ds numeral.1)

heads : (a b : ℕ) (xs ys : List ℕ) → a ∷ xs ≡ b ∷ ys → a ≡ b
heads a b xs ys e = ap (λ l. get_or l 0 0) e

tails : (a b : ℕ) (xs ys : List ℕ) → a ∷ xs ≡ b ∷ ys → xs ≡ ys
tails a b xs ys e = ap (drop 1) e

signed_minus_none : (rest : List ℕ) → ¬ (IsNumeral 10 rest) → (sign digits : List ℕ) (divides : Bool) → IsSign sign divides → 45 ∷ rest ≡ sign ++ digits → ¬ (IsNumeral 10 digits)
signed_minus_none rest h _ digits _ no_sign e numeral = let all : AllDigits 10 (45 ∷ rest) = subst (AllDigits 10) (sym e) numeral.1 in omega (arith, all.0)
signed_minus_none rest h _ digits _ plus e numeral = omega (arith, heads 45 43 rest digits e)
signed_minus_none rest h _ digits _ minus e numeral = h (subst (IsNumeral 10) (sym (tails 45 45 rest digits e)) numeral)

pub signed_minus : (rest : List ℕ) (r : Option Exponent) → IsPowerRead true rest r → IsSignedPowerRead (45 ∷ rest) r
signed_minus rest None h = signed_minus_none rest h
signed_minus rest (Some x) h = (45 ∷ [], rest, subst (IsSign (45 ∷ [])) (sym h.1) minus, refl, h.0, h.2)

signed_plus_none : (rest : List ℕ) → ¬ (IsNumeral 10 rest) → (sign digits : List ℕ) (divides : Bool) → IsSign sign divides → 43 ∷ rest ≡ sign ++ digits → ¬ (IsNumeral 10 digits)
signed_plus_none rest h _ digits _ no_sign e numeral = let all : AllDigits 10 (43 ∷ rest) = subst (AllDigits 10) (sym e) numeral.1 in omega (arith, all.0)
signed_plus_none rest h _ digits _ plus e numeral = h (subst (IsNumeral 10) (sym (tails 43 43 rest digits e)) numeral)
signed_plus_none rest h _ digits _ minus e numeral = omega (arith, heads 43 45 rest digits e)

pub signed_plus : (rest : List ℕ) (r : Option Exponent) → IsPowerRead false rest r → IsSignedPowerRead (43 ∷ rest) r
signed_plus rest None h = signed_plus_none rest h
signed_plus rest (Some x) h = (43 ∷ [], rest, subst (IsSign (43 ∷ [])) (sym h.1) plus, refl, h.0, h.2)

unsigned_none : (text : List ℕ) → get_or text 0 0 ≢ 45 → get_or text 0 0 ≢ 43 → ¬ (IsNumeral 10 text) → (sign digits : List ℕ) (divides : Bool) → IsSign sign divides → text ≡ sign
    ++ digits → ¬ (IsNumeral 10 digits)
unsigned_none text no_minus no_plus h _ digits _ no_sign e numeral = h (subst (IsNumeral 10) (sym e) numeral)
unsigned_none text no_minus no_plus h _ digits _ plus e numeral = no_plus (ap (λ l. get_or l 0 0) e)
unsigned_none text no_minus no_plus h _ digits _ minus e numeral = no_minus (ap (λ l. get_or l 0 0) e)

pub unsigned : (text : List ℕ) (r : Option Exponent) → get_or text 0 0 ≢ 45 → get_or text 0 0 ≢ 43 → IsPowerRead false text r → IsSignedPowerRead text r
unsigned text None no_minus no_plus h = unsigned_none text no_minus no_plus h
unsigned text (Some x) no_minus no_plus h = ([], text, subst (IsSign []) (sym h.1) no_sign, refl, h.0, h.2)

pub marked : (mark : ℕ) (signed : List ℕ) (r : Option Exponent) → (mark ≡ 101) ⊎ (mark ≡ 69) → IsSignedPowerRead signed r → IsExponentRead (mark ∷ signed) r
marked mark signed None is h = go
  where
    inv : (divides : Bool) (power : ℕ) (t : List ℕ) → IsExponent t divides power → t ≡ mark ∷ signed → ⊥
    inv _ _ _ no_exponent e = omega (arith, ap length e)
    inv _ _ _ (exponent m sign digits divides of_mark of_sign numeral) e = h sign digits divides of_sign (sym (ap (drop 1) e)) numeral

    go : (divides : Bool) (power : ℕ) → ¬ (IsExponent (mark ∷ signed) divides power)
    go divides power x = inv divides power (mark ∷ signed) x refl
marked mark signed (Some x) is h =
    let e : mark ∷ signed ≡ mark ∷ h.0 ++ h.1 = ap (λ l. mark ∷ l) h.3 in
    (digits_value 10 h.1, subst (λ l. IsExponent l x.divides (digits_value 10 h.1)) (sym e) (exponent mark h.0 h.1 x.divides is h.2 h.4), h.5)

pub unmarked : (text : List ℕ) → 0 < length text → get_or text 0 0 ≢ 101 → get_or text 0 0 ≢ 69 → (divides : Bool) (power : ℕ) → ¬ (IsExponent text divides power)
unmarked _ some no_small no_large _ _ no_exponent = omega arith
unmarked _ some no_small no_large _ _ (exponent m sign digits divides of_mark _ numeral) = elim of_mark [ inl a ↦ no_small a | inr b ↦ no_large b ]

pub no_exponent_read : (text : List ℕ) → length text < 1 → (power : ℕ) × IsExponent text false power × (0 ≡ capped power)
no_exponent_read [] short = (0, no_exponent, refl)
no_exponent_read (c ∷ cs) short = absurd (omega arith)
