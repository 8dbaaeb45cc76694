use Rattle.std.proofs.Common.{Some, ap, ◌∙◌}
use Rattle.stream_object.specs.Streams.{stream_of}
use Rattle.plain_model.specs.StreamSteps.{or_no_stream}
use Rattle.keyspace.specs.Commands.{visible}
use Rattle.cmd_streams.proofs.Gone.{same_before}
use Rattle.cmd_streams.proofs.adding.last_there.Goals as goal

pub returns-in-Some : goal.returns-in-Some
returns-in-Some g c = λ before is.
    let m = g.B.BlockStore.blocks c.args.keyspace.now.store in
    ap (λ o. (or_no_stream o).last)
    (same_before (visible g.B.BlockStore.blocks c.args.keyspace.now c.args.at.now) c.args.key.now before (Some (stream_of m c.stream_there.result.now)) is
    (record { deadline = c.stream_there.ensures.deadline; stands = c.stream_there.ensures.stands }))
    ∙ c.last_id.ensures m
