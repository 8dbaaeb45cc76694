use Rattle.std.specs.Int.{w64}
use Rattle.std.proofs.lemmas.Int.{to_z-of_z}
use Rattle.stream_node.specs.Rest.{rest_of}
use Rattle.stream_node.proofs.Rests.{when_none, no_number, no_count}
use Rattle.stream_node.proofs.rest.Rest.split_count.Goals as goal

pub returns-in_err-number-clause-none : goal.returns-in_err-number-clause-none
returns-in_err-number-clause-none c = when_none c.from_residual.result (no_number (rest_of c.args.self.now) c.in_err-number.ensures.none)

pub returns-then-number-lt0-clause-none : goal.returns-then-number-lt0-clause-none
returns-then-number-lt0-clause-none c =
    no_count (rest_of c.args.self.now) (rest_of c.in_ok-number.behind) c.in_ok-number.number c.in_ok-number.ensures.fits
    (rw (to_z-of_z w64 c.in_ok-number.number c.in_ok-number.ensures.fits) at c.if-number-lt0.true) c.in_ok-number.ensures.some
