use Rattle.rdb_parts.proofs.Scored.{shifted_up}
use Rattle.rdb_parts.proofs.scores.significand_of.Goals as goal

pub returns-then-bits-le-FRACTION_BITS : goal.returns-then-bits-le-FRACTION_BITS
returns-then-bits-le-FRACTION_BITS c = shifted_up c.args.n c.args.bits c.requires.some c.requires.few c.requires.bits c.if-bits-le-FRACTION_BITS.true
