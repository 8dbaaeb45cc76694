use Rattle.std.proofs.Common.{sym, ap, ◌∙◌}
use Rattle.stream_object.specs.Streams.{entries, stream_of}
use Rattle.plain_model.specs.StreamSteps.{is_between, listed, range_of}
use Rattle.cmd_streams.proofs.Looking.{told_as}
use Rattle.cmd_streams.proofs.Ranging.{all_wanted}
use Rattle.cmd_streams.proofs.reading.limited_reply.Goals as goal

pub returns-in-None : goal.returns-in-None
returns-in-None g c =
    let m = g.B.BlockStore.blocks c.args.store.now in
    let all = all_wanted c.args.order (is_between c.args.from c.args.to) (entries m c.args.stream.now) c.len.result (c.len.ensures m c.requires.sound) in
    told_as c.range_reply.result _ _ (ap listed all ∙ sym (ap (λ l. range_of c.args.from c.args.to c.args.order l (stream_of m c.args.stream.now)) c.in-None.is)) c.range_reply.ensures
