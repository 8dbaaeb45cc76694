use Rattle.std.proofs.Common.{refl}
use Rattle.stream_object.specs.Streams.{nodes}
use Rattle.rdb_stream_writer.proofs.NodeWalks.{first_told, next_told, none_behind}
use Rattle.rdb_stream_writer.proofs.nodes.node_behind.Goals as goal

pub returns-in-None : goal.returns-in-None
returns-in-None g c =
    let ps = nodes (g.B.BlockStore.blocks c.args.store.now) c.args.stream.now in
    let told = c.node_at_or_after.ensures in
    rw c.in-None.is (first_told (λ f. f.0) (λ f. f.1.now) ps (record { ms = 0; seq = 0 }) c.node_at_or_after.result refl (told.some, told.none))

pub returns-in-None-next : goal.returns-in-None-next
returns-in-None-next g c =
    let m = g.B.BlockStore.blocks c.args.store.now in
    rw c.in-Some.is (none_behind m c.in-Some.key (nodes m c.args.stream.now) c.in-None-next.ensures.none c.requires.parts.each)

pub returns-in-Some-next : goal.returns-in-Some-next
returns-in-Some-next g c =
    let ps = nodes (g.B.BlockStore.blocks c.args.store.now) c.args.stream.now in
    let told = c.node_at_or_after-in-Some-next.ensures in
    rw c.in-Some.is (next_told (λ f. f.0) (λ f. f.1.now) ps c.in-Some.key c.in-Some-next.next c.node_at_or_after-in-Some-next.result c.in-Some-next.ensures.some (told.some, told.none))
