-- The score that the definition reads off a text is the score of the text.
use Rattle.std.proofs.Common.{◌≡◌, ◌⊎◌, ℕ, ◌+◌, ◌*◌, ◌<◌, ◌≤◌, ◌^◌, Bool, true, false, List, [], ◌∷◌, ◌++◌, length, drop, get_or, refl, sym, ap, subst, ◌∙◌, inl, inr, arith}
use Rattle.std.specs.Prelude.{◌%◌, ◌/◌, ◌==◌, ◌&&◌, ◌||◌, ℤ, Option, Some, None, Result, Ok, Err, nat_lt, nat_le, bytes_eq, codes, if◌then◌else◌}
use Rattle.std.specs.Char.{digit_value, is_ascii_digit}
use Rattle.std.specs.Str.{all_ascii_digits}
use Rattle.std.specs.Str.Parse.{AllDigits, IsNumeral, digits_value}
use Rattle.std.proofs.Math.Nat.{mul-mod_left, div-add-mod}
use Rattle.std.proofs.lemmas.Bool.{cases_lt, eqb-true, eq-eqb, lt-ltb, ltb-true, leb-true, le-leb}
use Rattle.std.proofs.lemmas.Slice.Eq.{bytes_eq-Decides}
use Rattle.std.proofs.lemmas.Str.Parse.{IsNumeralModel, numerals_by_value, tells_all_ascii_digits, digit_from_value}
use Rattle.int_text.specs.declared.score.ScoreFault.{ScoreFault}
use Rattle.int_text.specs.declared.score.ScoreFault.TheVariants.{Malformed, NotWhole, TooLarge}
use Rattle.int_text.specs.Digits.{StopsDigits}
use Rattle.int_text.specs.Parts.{IsTailRead, IsNumberRead, IsSignedRead}
use Rattle.int_text.specs.Score.{IsSign, no_sign, plus, minus, Number, IsExponent, no_exponent, exponent, IsInteger, IsValue, IsInfinityWord, IsScoreOf}
use Rattle.int_text.proofs.Numbers.{from_point, from_plain}
use Rattle.int_text.proofs.Ones.{score_one}
use Rattle.int_text.proofs.Scores.{IsUnsigned, IsOnlyBody, behind_minus, behind_plus, behind_none, from_signed}
use Rattle.plain_world.specs.Words.{in_lower_case}
use Rattle.plain_world.specs.ScoreTexts.{digits_in_front, behind_digits, is_negative, unsigned, fraction_of, behind_fraction, power_of, exponent_of, with_exponent, number_in, value_of}
use Rattle.plain_world.specs.ScoreTexts.{is_infinity_word, with_sign, score_in, score_of}

-- ---- digits

-- what the definition's test of digits tells
digits : IsNumeralModel (λ ds. all_ascii_digits ds ≡ true) (digits_value 10)
digits = numerals_by_value (λ ds. all_ascii_digits ds ≡ true) tells_all_ascii_digits

both : (a b : Bool) → (a && b) ≡ true → (a ≡ true) × (b ≡ true)
both true b e = (refl, e)
both false b e = cc

digit_low : (c : ℕ) → is_ascii_digit c ≡ true → digit_value c < 10
digit_low c e = (digits.to (c ∷ []) (ap (λ b. b && true) e)).0

no_digit_high : (c : ℕ) → is_ascii_digit c ≡ false → 10 ≤ digit_value c
no_digit_high c e =
    elim (cases_lt (digit_value c) 10) [
      | inl low ↦ let is : (is_ascii_digit c && true) ≡ true = digits.from (c ∷ []) (low, tt) in absurd (cc (sym is ∙ ap (λ b. b && true) e))
      | inr high ↦ high
    ]

front_all : (text : List ℕ) → AllDigits 10 (digits_in_front text)
front_all [] = tt
front_all (c ∷ text) =
    elim (is_ascii_digit c) as (λ b. is_ascii_digit c ≡ b → AllDigits 10 (if b then c ∷ digits_in_front text else [])) [
      | true ↦ λ e. (digit_low c e, front_all text)
      | false ↦ λ e. tt
    ] refl

behind_stops : (text : List ℕ) → StopsDigits (behind_digits text)
behind_stops [] = tt
behind_stops (c ∷ text) =
    elim (is_ascii_digit c) as (λ b. is_ascii_digit c ≡ b → StopsDigits (if b then behind_digits text else c ∷ text)) [
      | true ↦ λ e. behind_stops text
      | false ↦ λ e. no_digit_high c e
    ] refl

front_and_behind : (text : List ℕ) → text ≡ digits_in_front text ++ behind_digits text
front_and_behind [] = refl
front_and_behind (c ∷ text) =
    elim (is_ascii_digit c) as (λ b. c ∷ text ≡ (if b then c ∷ digits_in_front text else []) ++ (if b then behind_digits text else c ∷ text)) [
      | true ↦ ap (λ l. c ∷ l) (front_and_behind text)
      | false ↦ refl
    ]

-- ---- signs

record SplitAs (text body : List ℕ) (negative : Bool) : Type 0 where
  sign : List ℕ
  parts : text ≡ sign ++ body
  is_sign : IsSign sign negative
  only : IsOnlyBody text body

split_first : (c : ℕ) (text : List ℕ) (m p : Bool) → (c == 45) ≡ m → (c == 43) ≡ p → SplitAs (c ∷ text) (if m || p then text else c ∷ text) m
split_first c text true p e f =
    let is : c ≡ 45 = eqb-true c 45 e in
    subst (λ b. SplitAs (b ∷ text) text true) (sym is) (record { sign = 45 ∷ []; parts = refl; is_sign = minus; only = behind_minus text })
split_first c text false true e f =
    let is : c ≡ 43 = eqb-true c 43 f in
    subst (λ b. SplitAs (b ∷ text) text false) (sym is) (record { sign = 43 ∷ []; parts = refl; is_sign = plus; only = behind_plus text })
split_first c text false false e f =
    let first : IsUnsigned (c ∷ text) = record { no_plus = λ is. cc (sym (eq-eqb c 43 is) ∙ f); no_minus = λ is. cc (sym (eq-eqb c 45 is) ∙ e) } in
    record { sign = []; parts = refl; is_sign = no_sign; only = behind_none (c ∷ text) first }

split : (text : List ℕ) → SplitAs text (unsigned text) (is_negative text)
split [] = record { sign = []; parts = refl; is_sign = no_sign; only = behind_none [] (record { no_plus = λ e. omega (arith, e); no_minus = λ e. omega (arith, e) }) }
split (c ∷ text) = split_first c text (c == 45) (c == 43) refl refl

-- ---- exponents

abbrev IsExponentFound : List ℕ → Option (Bool × ℕ) → Type 0
IsExponentFound tail None = (divides : Bool) (power : ℕ) → ¬ (IsExponent tail divides power)
IsExponentFound tail (Some e) = IsExponent tail e.0 e.1

numeral_unsigned : (ds : List ℕ) → IsNumeral 10 ds → IsUnsigned ds
numeral_unsigned [] n = absurd (omega (arith, n.0))
numeral_unsigned (c ∷ cs) n =
    let range = digit_from_value c n.1.0 in
    record { no_plus = λ e. omega (arith, range.0, e); no_minus = λ e. omega (arith, range.0, e) }

-- the mark of an exponent, and its digits, told by the whole text
exponent_parts : (tail : List ℕ) (c : ℕ) (text : List ℕ) (divides : Bool) (power : ℕ) → IsExponent tail divides power → tail ≡ c ∷ text → ((c ≡ 101) ⊎ (c ≡ 69)) × IsNumeral 10 (unsigned text)
exponent_parts _ c text _ _ no_exponent e = absurd (omega (arith, ap length e))
exponent_parts _ c text _ _ (exponent mark sign ds divides is_mark is_sign numeral) e =
    let head : mark ≡ c = ap (λ l. get_or l 0 0) e in
    let rest : text ≡ sign ++ ds = sym (ap (drop 1) e) in
    let body : ds ≡ unsigned text = (split text).only sign ds divides is_sign rest (numeral_unsigned ds numeral) in
    (subst (λ m. (m ≡ 101) ⊎ (m ≡ 69)) head is_mark, subst (IsNumeral 10) body numeral)

is_numeral : (ds : List ℕ) → (nat_lt 0 (length ds) && all_ascii_digits ds) ≡ true → IsNumeral 10 ds
is_numeral ds e = let parts = both (nat_lt 0 (length ds)) (all_ascii_digits ds) e in (ltb-true 0 (length ds) parts.0, digits.to ds parts.1)

numeral_passes : (ds : List ℕ) → IsNumeral 10 ds → (nat_lt 0 (length ds) && all_ascii_digits ds) ≡ true
numeral_passes ds is = rw (lt-ltb 0 (length ds) is.0, digits.from ds is.1) refl

power_found : (c : ℕ) (text : List ℕ) (b : Bool) → (nat_lt 0 (length (unsigned text)) && all_ascii_digits (unsigned text)) ≡ b → (c ≡ 101) ⊎ (c ≡ 69)
    → IsExponentFound (c ∷ text) (if b then Some (is_negative text, digits_value 10 (unsigned text)) else None)
power_found c text true e mark =
    let s = split text in
    subst (λ l. IsExponent (c ∷ l) (is_negative text) (digits_value 10 (unsigned text))) (sym s.parts)
    (exponent c s.sign (unsigned text) (is_negative text) mark s.is_sign (is_numeral (unsigned text) e))
power_found c text false e mark = λ divides power is. cc (sym (numeral_passes (unsigned text) (exponent_parts (c ∷ text) c text divides power is refl).1) ∙ e)

mark_found : (c : ℕ) (text : List ℕ) (small large : Bool) → (c == 101) ≡ small → (c == 69) ≡ large → IsExponentFound (c ∷ text) (if small || large then power_of text else None)
mark_found c text true large e f = power_found c text (nat_lt 0 (length (unsigned text)) && all_ascii_digits (unsigned text)) refl (inl (eqb-true c 101 e))
mark_found c text false true e f = power_found c text (nat_lt 0 (length (unsigned text)) && all_ascii_digits (unsigned text)) refl (inr (eqb-true c 69 f))
mark_found c text false false e f = λ divides power is. elim (exponent_parts (c ∷ text) c text divides power is refl).0 [ inl a ↦ cc (sym (eq-eqb c 101 a) ∙ e) | inr b ↦ cc (sym (eq-eqb c 69 b) ∙ f) ]

exponent_found : (tail : List ℕ) → IsExponentFound tail (exponent_of tail)
exponent_found [] = no_exponent
exponent_found (c ∷ text) = mark_found c text (c == 101) (c == 69) refl refl

-- ---- values

value_test : (number : Number) (over under : ℕ) → over ≡ digits_value 10 (number.whole ++ number.fraction) * 10 ^ (if number.divides then 0 else number.power)
    → under ≡ 10 ^ (length number.fraction + (if number.divides then number.power else 0)) → (whole small : Bool) → (over % under == 0) ≡ whole → nat_le (over / under) (2 ^ 53) ≡ small
    → IsValue number (if whole then (if small then Ok (over / under) else Err TooLarge) else Err NotWhole)
value_test number over under o u true small e f =
    let none : over % under ≡ 0 = eqb-true (over % under) 0 e in
    let parts = div-add-mod over under in
    let turned : under * (over / under) ≡ over / under * under = omega arith in
    let times : over ≡ over / under * under = sym parts ∙ ap (λ r. under * (over / under) + r) none ∙ omega (arith, turned) in
    let is : IsInteger number (over / under) = sym o ∙ times ∙ ap (λ k. over / under * k) u in
    elim small as (λ b. nat_le (over / under) (2 ^ 53) ≡ b → IsValue number (if b then Ok (over / under) else Err TooLarge)) [
      | true ↦ λ g. (is, leb-true (over / under) (2 ^ 53) g)
      | false ↦ λ g. (over / under, is, not_le (over / under) (2 ^ 53) g)
    ] f
  where
    not_le : (a b : ℕ) → nat_le a b ≡ false → b < a
    not_le a b e = elim (cases_lt b a) [ inl less ↦ less | inr more ↦ absurd (cc (sym (le-leb a b more) ∙ e)) ]
value_test number over under o u false small e f = λ n is.
    let times : over ≡ n * under = o ∙ is ∙ ap (λ k. n * k) (sym u) in
    let none : over % under ≡ 0 = ap (λ k. k % under) times ∙ mul-mod_left n under in
    cc (sym (eq-eqb (over % under) 0 none) ∙ e)

value_is : (number : Number) → IsValue number (value_of number)
value_is number =
    let over = digits_value 10 (number.whole ++ number.fraction) * 10 ^ (if number.divides then 0 else number.power) in
    let under = 10 ^ (length number.fraction + (if number.divides then number.power else 0)) in
    value_test number over under refl refl (over % under == 0) (nat_le (over / under) (2 ^ 53)) refl refl

-- ---- numbers

-- the number of a text, or that there is none
abbrev found : Option Number → Result ℕ ScoreFault
found None = Err Malformed
found (Some number) = value_of number

module _ (W F tail : List ℕ) where
  tail_value : (divides : Bool) (power : ℕ) (r : Result ℕ ScoreFault) → 0 < length W + length F → IsExponent tail divides power
      → IsValue (record { whole = W; fraction = F; divides = divides; power = power }) r → IsTailRead W F tail r
  tail_value divides power (Ok n) some is v = (divides, power, (some, is), v)
  tail_value divides power (Err Malformed) some is v = absurd v
  tail_value divides power (Err NotWhole) some is v = (divides, power, (some, is), v)
  tail_value divides power (Err TooLarge) some is v = (divides, power, (some, is), v)

  tail_found : (e : Option (Bool × ℕ)) → 0 < length W + length F → IsExponentFound tail e → IsTailRead W F tail (found (with_exponent W F e))
  tail_found None some h = λ divides power is. h divides power is.1
  tail_found (Some e) some h = tail_value e.0 e.1 (value_of (record { whole = W; fraction = F; divides = e.0; power = e.1 })) some h
      (value_is (record { whole = W; fraction = F; divides = e.0; power = e.1 }))

  tail_read : (some : Bool) → nat_lt 0 (length W + length F) ≡ some → IsTailRead W F tail (found (if some then with_exponent W F (exponent_of tail) else None))
  tail_read true e = tail_found (exponent_of tail) (ltb-true 0 (length W + length F) e) (exponent_found tail)
  tail_read false e = λ divides power is. cc (sym (lt-ltb 0 (length W + length F) is.0) ∙ e)

-- behind the digits in front
rest_read : (W rest : List ℕ) → AllDigits 10 W → StopsDigits rest
    → IsNumberRead (W ++ rest) (found (if nat_lt 0 (length W + length (fraction_of rest)) then with_exponent W (fraction_of rest) (exponent_of (behind_fraction rest)) else None))
rest_read W [] w stops =
    from_plain W [] w stops (λ e. omega (arith, e)) _ (tail_read W [] [] (nat_lt 0 (length W + 0)) refl)
rest_read W (c ∷ behind) w stops =
    elim (c == 46) as
    (λ b. (c == 46) ≡ b → IsNumberRead (W ++ c ∷ behind)
    (found
    (if nat_lt 0 (length W + length (if b then digits_in_front behind else [])) then with_exponent W (if b then digits_in_front behind else [])
    (exponent_of (if b then behind_digits behind else c ∷ behind)) else None))) [
      | true ↦ λ e.
          let F = digits_in_front behind in
          let tail = behind_digits behind in
          let r = found (if nat_lt 0 (length W + length F) then with_exponent W F (exponent_of tail) else None) in
          subst (λ p. IsNumberRead (W ++ p ∷ behind) r) (sym (eqb-true c 46 e))
          (from_point W F tail behind w (front_all behind) (behind_stops behind) (front_and_behind behind) r (tail_read W F tail (nat_lt 0 (length W + length F)) refl))
      | false ↦ λ e.
          let r = found (if nat_lt 0 (length W + 0) then with_exponent W [] (exponent_of (c ∷ behind)) else None) in
          from_plain W (c ∷ behind) w stops (λ is. cc (sym (eq-eqb c 46 is) ∙ e)) r (tail_read W [] (c ∷ behind) (nat_lt 0 (length W + 0)) refl)
    ] refl

number_read : (body : List ℕ) → IsNumberRead body (found (number_in body))
number_read body =
    subst (λ l. IsNumberRead l (found (number_in body))) (sym (front_and_behind body)) (rest_read (digits_in_front body) (behind_digits body) (front_all body) (behind_stops body))

-- ---- scores

signed : (negative : Bool) (body : List ℕ) (r : Result ℕ ScoreFault) → ¬ (IsInfinityWord body) → IsNumberRead body r → IsSignedRead negative body (with_sign negative r)
signed negative body (Ok n) other h = (n, h, refl)
signed negative body (Err Malformed) other h = (h, other)
signed negative body (Err NotWhole) other h = h
signed negative body (Err TooLarge) other h = inr h

signed_found : (negative : Bool) (body : List ℕ) (o : Option Number) → ¬ (IsInfinityWord body) → IsNumberRead body (found o) → IsSignedRead negative body (score_in negative o)
signed_found negative body None other h = (h, other)
signed_found negative body (Some number) other h = signed negative body (value_of number) other h

infinity : (word : List ℕ) (short long : Bool) → bytes_eq (in_lower_case word) (codes "inf") ≡ short → bytes_eq (in_lower_case word) (codes "infinity") ≡ long → (short || long) ≡ true
    → IsInfinityWord word
infinity word true long e f h = inl ((bytes_eq-Decides (in_lower_case word) (codes "inf")).0 e)
infinity word false true e f h = inr ((bytes_eq-Decides (in_lower_case word) (codes "infinity")).0 f)
infinity word false false e f h = cc

no_infinity : (word : List ℕ) → is_infinity_word word ≡ false → ¬ (IsInfinityWord word)
no_infinity word e (inl is) = cc (sym (ap (λ b. b || bytes_eq (in_lower_case word) (codes "infinity")) ((bytes_eq-Decides (in_lower_case word) (codes "inf")).1 is)) ∙ e)
no_infinity word e (inr is) =
    elim (bytes_eq (in_lower_case word) (codes "inf")) as (λ b. (b || bytes_eq (in_lower_case word) (codes "infinity")) ≡ false → ⊥) [
      | true ↦ λ h. cc
      | false ↦ λ h. cc (sym ((bytes_eq-Decides (in_lower_case word) (codes "infinity")).1 is) ∙ h)
    ] e

signed_read : (negative : Bool) (body : List ℕ) (b : Bool) → is_infinity_word body ≡ b → IsSignedRead negative body (if b then Err TooLarge else score_in negative (number_in body))
signed_read negative body true e = inl (infinity body (bytes_eq (in_lower_case body) (codes "inf")) (bytes_eq (in_lower_case body) (codes "infinity")) refl refl e)
signed_read negative body false e = signed_found negative body (number_in body) (no_infinity body e) (number_read body)

-- the definition's answer is a score of the text
pub score_of_is : (text : List ℕ) → IsScoreOf text (score_of text)
score_of_is text =
    let s = split text in
    from_signed text s.sign (unsigned text) (is_negative text) s.parts s.is_sign s.only (score_of text) (signed_read (is_negative text) (unsigned text) (is_infinity_word (unsigned text)) refl)

-- so whatever is a score of the text is the definition's answer
pub score_told : (text : List ℕ) (r : Result ℤ ScoreFault) → IsScoreOf text r → score_of text ≡ r
score_told text r h = score_one text (score_of text) r (score_of_is text) h
