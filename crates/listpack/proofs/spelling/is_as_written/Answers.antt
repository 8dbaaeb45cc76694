use Rattle.std.proofs.Common.{◌≡◌, ℕ, false, length, slice_index, sym, ap, ◌∙◌, subst, arith, rules}
use Rattle.std.specs.Prelude.{FitsSigned, Some, IsTrue}
use Rattle.std.specs.Int.{w64}
use Rattle.std.proofs.lemmas.Int.{to_z-of_z}
use Rattle.int_text.specs.Decimal.{canonical}
use Rattle.int_text.proofs.NumberOf.{number_back}
use Rattle.listpack.specs.declared.encoding.Element.{Element}
use Rattle.listpack.specs.Entry.{text_of}
use Rattle.listpack.specs.Element.{IsNumberByte, element_text, is_number}
use Rattle.listpack.specs.Writing.{spelling, number_spelling}
use Rattle.listpack.proofs.Writings.{spelling_as}
use Rattle.listpack.proofs.Written.{string_short}
use Rattle.listpack.proofs.spelling.is_as_written.Goals as goal

pub returns-in-Number : goal.returns-in-Number
returns-in-Number c =
    let s = c.args.spelled.now in
    let n = c.in-Number.n in
    let fits : FitsSigned w64 n = search rules in
    let text : text_of s ≡ canonical n = sym c.element_of.ensures.text ∙ ap element_text c.in-Number.is in
    let same : spelling (text_of s) ≡ number_spelling n = ap spelling text ∙ spelling_as (canonical n) (Some n) (number_back n fits) in
    let passed = ap number_spelling (to_z-of_z w64 n fits) in
    (λ t. c.is_spelling_of_number.ensures.0 t ∙ passed ∙ sym same, λ is. c.is_spelling_of_number.ensures.1 (is ∙ same ∙ sym passed))

pub is_spelling_of-requires : goal.is_spelling_of-requires
is_spelling_of-requires c =
    let s = c.args.spelled.now in
    let text : text_of s ≡ c.in-Text.part.now = sym c.element_of.ensures.text ∙ ap element_text c.in-Text.is in
    let string : IsNumberByte (slice_index s 0) → ⊥ = λ byte.
    let t : IsTrue false = subst (λ (e : Element). IsTrue (is_number e)) c.in-Text.is (c.element_of.ensures.number.1 byte) in let never : ⊥ = cc in never in
    omega (arith, c.requires.small, string_short s string, ap length text)

pub returns-in-Text : goal.returns-in-Text
returns-in-Text c =
    let text : text_of c.args.spelled.now ≡ c.in-Text.part.now = sym c.element_of.ensures.text ∙ ap element_text c.in-Text.is in
    (λ t. c.is_spelling_of.ensures.0 t ∙ ap spelling (sym text), λ is. c.is_spelling_of.ensures.1 (is ∙ ap spelling text))
