use Rattle.std.proofs.Common.{arith}
use Rattle.rdb_grammar.proofs.Magnitudes.{never_zero, low, high}
use Rattle.rdb_grammar.proofs.scores.magnitude_of.Goals.{then-exponent-via-then-exponent, then-exponent-via-else-exponent+then-exponent-2}
use Rattle.rdb_grammar.proofs.scores.magnitude_of.Goals as goal

pub returns-then-exponent : goal.returns-then-exponent
returns-then-exponent c = elim c.then-exponent.branch [
  | then-exponent-via-then-exponent w ↦ low c.args.exponent c.args.fraction (never_zero _ _ c.else-exponent-eq0.either) (omega (arith, w.if-exponent)) c.requires.fraction
  | then-exponent-via-else-exponent+then-exponent-2 w ↦ high c.args.exponent c.args.fraction (omega (arith, w.if-exponent-2))
]
