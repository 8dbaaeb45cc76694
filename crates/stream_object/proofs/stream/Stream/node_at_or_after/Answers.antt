use Rattle.std.proofs.Common.{refl}
use Rattle.stream_object.specs.Parts.{part}
use Rattle.stream_object.proofs.stream.Stream.node_at_or_after.Goals as goal

pub returns-in-Some-clause-some : goal.returns-in-Some-clause-some
returns-in-Some-clause-some g c =
    let spot = c.in-Some.spot in
    (part spot.key spot.at spot.bytes.now, c.in-Some.ensures.some, refl, refl)

pub returns-in-None-clause-none : goal.returns-in-None-clause-none
returns-in-None-clause-none g c = c.in-None.ensures.none
