use Rattle.std.proofs.Common.{◌≡◌, rules, arith, sym, ap, subst, ◌∙◌}
use Rattle.std.specs.Str.Parse.{IsNumeral, digits_value}
use Rattle.int_text.specs.Decimal.{IsU64Text}
use Rattle.program_top.proofs.Readings.{number_passes, no_number}
use Rattle.program_top.specs.WordsRead.{number_read}
use Rattle.program_top.proofs.words.number_of.Goals as goal

pub returns-in-None-clause-none : goal.returns-in-None-clause-none
returns-in-None-clause-none c = no_number (number_read c.args.option) c.args.text.now (search rules) (λ is. c.in-None.ensures (subst IsU64Text (sym c.as_bytes.ensures.value) is))

pub returns-else-option-number-clause-some : goal.returns-else-option-number-clause-some
returns-else-option-number-clause-some c =
    let is = c.in-Some.ensures in
    let range = c.if-option-number.false in
    let value : c.in-Some.number ≡ digits_value 10 c.args.text.now = is.1 ∙ ap (digits_value 10) c.as_bytes.ensures.value in
    (number_passes (number_read c.args.option) c.args.text.now (subst (IsNumeral 10) c.as_bytes.ensures.value is.0.0) (omega (arith, value, range.0)) (omega (arith, value, range.1)), value, range.1)
