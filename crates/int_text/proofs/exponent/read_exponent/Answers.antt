use Rattle.std.proofs.Common.{sym, subst, refl, inl, inr, arith}
use Rattle.int_text.specs.Parts.{IsExponentRead}
use Rattle.int_text.proofs.Signed.{first_split}
use Rattle.int_text.proofs.Exponents.{marked, no_exponent_read}
use Rattle.int_text.proofs.exponent.read_exponent.Goals as goal

pub returns-in-empty : goal.returns-in-empty
returns-in-empty c = no_exponent_read c.args.text.now c.in-empty.len_below

pub returns-in-101 : goal.returns-in-101
returns-in-101 c =
    subst (λ t. IsExponentRead t c.read_signed_power.result) (sym (first_split 101 c.args.text.now c.in-101.len_at_least (omega arith)))
    (marked 101 _ c.read_signed_power.result (inl refl) c.read_signed_power.ensures)

pub returns-in-69 : goal.returns-in-69
returns-in-69 c =
    subst (λ t. IsExponentRead t c.read_signed_power-in-69.result) (sym (first_split 69 c.args.text.now c.in-69.len_at_least (omega arith)))
    (marked 69 _ c.read_signed_power-in-69.result (inr refl) c.read_signed_power-in-69.ensures)
