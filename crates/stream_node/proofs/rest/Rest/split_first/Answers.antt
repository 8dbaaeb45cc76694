use Rattle.listpack.specs.View.{list_of}
use Rattle.stream_node.proofs.Rests.{from_place}
use Rattle.stream_node.proofs.rest.Rest.split_first.Goals as goal

pub returns-in-Some-clause-some : goal.returns-in-Some-clause-some
returns-in-Some-clause-some c =
    let rest = c.args.self.now in
    let place = rest.place c.in-Some.at c.in-Some.is in
    from_place (list_of rest.pack) rest.left _ rest.few place.0 (c.step-next.ensures.text _ place)
