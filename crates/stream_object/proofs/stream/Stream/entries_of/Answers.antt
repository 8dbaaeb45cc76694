use Rattle.std.proofs.lemmas.List.{get_or_default}
use Rattle.stream_object.specs.Streams.{entries}
use Rattle.stream_object.proofs.Agains.{entries_more}
use Rattle.stream_object.proofs.stream.Stream.entries_of.Goals as goal

pub loop-pair-preserved : goal.loop-pair-preserved
loop-pair-preserved g c =
    let m = g.B.BlockStore.blocks c.args.store.now in
    entries_more (entries m c.args.self.now) c.args.ids.now c.loop-pair.pair-index _ c.loop-pair.found.items c.push.new.self.items (record { id = c.id_of-id.result; pairs = c.in_ok-pairs.pairs })
    c.loop-pair.invariant c.in_ok-push.ensures.items c.id_of-id.ensures c.in_ok-pairs.ensures c.loop-pair-test.true
    (get_or_default c.args.ids.now c.loop-pair.pair-index (0, 0) _ c.loop-pair-test.true)
