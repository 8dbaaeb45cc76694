use Rattle.std.proofs.Common.{◌∙◌, sym, arith}
use Rattle.rehash_dict.specs.Sides.{held_tables}
use Rattle.rehash_dict.proofs.Rooms.{going_yes, going_no, rehashed_going, rehashed_not}
use Rattle.rehash_dict.proofs.tables.step_if_rehashing.Goals as goal

pub returns-then-buckets-gt0-clause-tables : goal.returns-then-buckets-gt0-clause-tables
returns-then-buckets-gt0-clause-tables g c names agrees =
    c.step.ensures.tables names agrees ∙ sym
    (rehashed_going names (held_tables c.args.chains.now c.args.position)
    (going_yes (held_tables c.args.chains.now c.args.position) (omega (arith, c.buckets.ensures, c.if-buckets-gt0.true))))

pub returns-else-buckets-gt0-clause-tables : goal.returns-else-buckets-gt0-clause-tables
returns-else-buckets-gt0-clause-tables g c names agrees =
    sym (rehashed_not names (held_tables c.args.chains.now c.args.position) (going_no (held_tables c.args.chains.now c.args.position) (omega (arith, c.buckets.ensures, c.if-buckets-gt0.false))))
