-- From a number behind its sign to the score of the text.
use Rattle.std.proofs.Common.{◌≡◌, ◌≢◌, ℕ, ◌+◌, ◌<◌, Bool, List, [], ◌∷◌, ◌++◌, length, drop, get_or, sym, ap, subst, ◌∙◌, inl, inr, arith}
use Rattle.std.specs.Prelude.{Result, Ok, Err, ℤ}
use Rattle.std.specs.Str.{str_to_ascii_lowercase}
use Rattle.std.specs.Str.Parse.{AllDigits}
use Rattle.std.proofs.lemmas.Str.Parse.{digit_from_value}
use Rattle.int_text.specs.declared.score.ScoreFault.{ScoreFault}
use Rattle.int_text.specs.declared.score.ScoreFault.TheVariants.{Malformed, NotWhole, TooLarge}
use Rattle.int_text.specs.Parts.{IsSignedRead}
use Rattle.int_text.specs.Score.{IsSign, no_sign, plus, minus, Number, IsNumber, IsFraction, no_point, point, IsInfinityWord, IsScoreText, IsScoreOf}

-- a text begins with no sign
pub record IsUnsigned (text : List ℕ) : Type 0 where
  pub no_plus : get_or text 0 0 ≢ 43
  pub no_minus : get_or text 0 0 ≢ 45

first_of : (w p f ex : List ℕ) → AllDigits 10 w → IsFraction p f → 0 < length w + length f → IsUnsigned (w ++ (p ++ ex))
first_of (c ∷ cs) p f ex all is some =
    let range = digit_from_value c all.0 in
    record { no_plus = λ e. omega (arith, range.0, e); no_minus = λ e. omega (arith, range.0, e) }
first_of [] _ _ ex all no_point some = absurd (omega arith)
first_of [] _ _ ex all (point digits is) some = record { no_plus = λ e. omega (arith, e); no_minus = λ e. omega (arith, e) }

pub number_unsigned : (body : List ℕ) (number : Number) → IsNumber body number → IsUnsigned body
number_unsigned body number n = subst IsUnsigned (sym n.body_is) (first_of number.whole n.point_text number.fraction n.exponent_text n.digits n.is_fraction n.some)

pub word_unsigned : (word : List ℕ) → IsInfinityWord word → IsUnsigned word
word_unsigned [] (inl e) = absurd (omega (arith, ap length e))
word_unsigned [] (inr e) = absurd (omega (arith, ap length e))
word_unsigned (c ∷ cs) h = record {
  no_plus = λ first. at 43 first (λ e. omega (arith, e));
  no_minus = λ first. at 45 first (λ e. omega (arith, e));
}
  where
    at : (b : ℕ) → c ≡ b → get_or (str_to_ascii_lowercase (b ∷ [])) 0 0 ≢ 105 → ⊥
    at b first other =
        let is : get_or (str_to_ascii_lowercase (c ∷ cs)) 0 0 ≡ 105 = elim h [ inl e ↦ ap (λ l. get_or l 0 0) e | inr e ↦ ap (λ l. get_or l 0 0) e ] in
        other (ap (λ x. get_or (str_to_ascii_lowercase (x ∷ cs)) 0 0) (sym first) ∙ is)

-- behind whatever sign, this is the only text that begins with none
abbrev pub IsOnlyBody : List ℕ → List ℕ → Type 0
IsOnlyBody text body = (sign other : List ℕ) (negative : Bool) → IsSign sign negative → text ≡ sign ++ other → IsUnsigned other → other ≡ body

pub behind_minus : (body : List ℕ) → IsOnlyBody (45 ∷ body) body
behind_minus body _ other _ no_sign e un = absurd (un.no_minus (ap (λ l. get_or l 0 0) (sym e)))
behind_minus body _ other _ plus e un = let head : 45 ≡ 43 = ap (λ l. get_or l 0 0) e in absurd (omega (arith, head))
behind_minus body _ other _ minus e un = ap (drop 1) (sym e)

pub behind_plus : (body : List ℕ) → IsOnlyBody (43 ∷ body) body
behind_plus body _ other _ no_sign e un = absurd (un.no_plus (ap (λ l. get_or l 0 0) (sym e)))
behind_plus body _ other _ plus e un = ap (drop 1) (sym e)
behind_plus body _ other _ minus e un = let head : 43 ≡ 45 = ap (λ l. get_or l 0 0) e in absurd (omega (arith, head))

pub behind_none : (text : List ℕ) → IsUnsigned text → IsOnlyBody text text
behind_none text is _ other _ no_sign e un = sym e
behind_none text is _ other _ plus e un = absurd (is.no_plus (ap (λ l. get_or l 0 0) e))
behind_none text is _ other _ minus e un = absurd (is.no_minus (ap (λ l. get_or l 0 0) e))

module _ (text sign body : List ℕ) (negative : Bool) (parts : text ≡ sign ++ body) (is_sign : IsSign sign negative) (only : IsOnlyBody text body) where
  as_text : (number : Number) → IsNumber body number → IsScoreText text negative number
  as_text number n = record { sign = sign; body = body; text_is = parts; is_sign = is_sign; is_number = n }

  pub from_signed : (r : Result ℤ ScoreFault) → IsSignedRead negative body r → IsScoreOf text r
  from_signed (Err Malformed) h = (
    λ other number s. h.0 number (subst (λ l. IsNumber l number) (only s.sign s.body other s.is_sign s.text_is (number_unsigned s.body number s.is_number)) s.is_number),
    λ i. h.1 (subst IsInfinityWord (only i.sign i.word i.negative i.is_sign i.text_is (word_unsigned i.word i.is_word)) i.is_word),
  )
  from_signed (Err NotWhole) h = (negative, h.0, as_text h.0 h.1, h.2)
  from_signed (Err TooLarge) (inl word) = inl (record { sign = sign; word = body; negative = negative; text_is = parts; is_sign = is_sign; is_word = word })
  from_signed (Err TooLarge) (inr h) = inr (negative, h.0, h.2.0, as_text h.0 h.1, h.2.1, h.2.2)
  from_signed (Ok z) h = (negative, h.1.0, h.0, as_text h.1.0 h.1.1, h.1.2.0, h.1.2.1, h.2)
