use Rattle.std.proofs.Common.{arith}
use Rattle.std.proofs.lemmas.Bool.Decides.{nat_tests}
use Rattle.int_text.proofs.Numerals.{no_zero, short_zero, is_decimal, no_decimal}
use Rattle.int_text.proofs.decimal.read_unsigned.Goals as goal
use Rattle.int_text.proofs.decimal.read_unsigned.Goals.{in_default-via-then-text-lt2, in_default-via-else-text-lt2+in_default-1}

pub returns-in-48-clause-none : goal.returns-in-48-clause-none
returns-in-48-clause-none c n small = no_zero c.args.text.now n small (omega arith) (omega arith)

pub returns-in_default-clause-number : goal.returns-in_default-clause-number
returns-in_default-clause-number c =
    is_decimal c.read_u64.result c.args.text.now
    (elim c.in_default.branch [
      | in_default-via-then-text-lt2 w ↦ λ zero. short_zero c.args.text.now (grind (arith, nat_tests)) zero
      | in_default-via-else-text-lt2+in_default-1 w ↦ λ zero. absurd (omega arith)
    ])
    c.read_u64.ensures

pub returns-in_default-clause-none : goal.returns-in_default-clause-none
returns-in_default-clause-none c = no_decimal c.read_u64.result c.args.text.now c.read_u64.ensures
