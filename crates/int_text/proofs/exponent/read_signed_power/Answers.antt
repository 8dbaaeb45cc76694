use Rattle.std.proofs.Common.{sym, subst, lit<, arith}
use Rattle.std.proofs.lemmas.Bool.Decides.{nat_tests}
use Rattle.int_text.specs.Parts.{IsSignedPowerRead}
use Rattle.int_text.proofs.Signed.{first_split, no_first}
use Rattle.int_text.proofs.Exponents.{signed_minus, signed_plus, unsigned}
use Rattle.int_text.proofs.exponent.read_signed_power.Goals as goal
use Rattle.int_text.proofs.exponent.read_signed_power.Goals.{in_default-via-then-text-lt1, in_default-via-else-text-lt1+in_default-1}

pub returns-in-45 : goal.returns-in-45
returns-in-45 c =
    subst (λ t. IsSignedPowerRead t c.read_power.result) (sym (first_split 45 c.args.text.now c.in-45.len_at_least (omega arith)))
    (signed_minus _ c.read_power.result c.read_power.ensures)

pub returns-in-43 : goal.returns-in-43
returns-in-43 c =
    subst (λ t. IsSignedPowerRead t c.read_power-in-43.result) (sym (first_split 43 c.args.text.now c.in-43.len_at_least (omega arith)))
    (signed_plus _ c.read_power-in-43.result c.read_power-in-43.ensures)

pub returns-in_default : goal.returns-in_default
returns-in_default c =
    unsigned c.args.text.now c.read_power-in_default.result
    (elim c.in_default.branch [
      | in_default-via-then-text-lt1 w ↦ no_first 45 c.args.text.now (lit< tt) (grind (arith, nat_tests))
      | in_default-via-else-text-lt1+in_default-1 w ↦ λ e. omega arith
    ])
    (elim c.in_default.branch [
      | in_default-via-then-text-lt1 w ↦ no_first 43 c.args.text.now (lit< tt) (grind (arith, nat_tests))
      | in_default-via-else-text-lt1+in_default-1 w ↦ λ e. omega arith
    ])
    c.read_power-in_default.ensures
