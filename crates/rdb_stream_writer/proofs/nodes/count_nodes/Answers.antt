use Rattle.std.proofs.Common.{◌≡◌, length, sym, arith}
use Rattle.stream_object.specs.Streams.{nodes}
use Rattle.rdb_stream_writer.proofs.NodeWalks.{count_begins, count_more, node_ends, counted_upto}
use Rattle.rdb_stream_writer.proofs.SpelledNodes.{few_nodes}
use Rattle.rdb_stream_writer.proofs.nodes.count_nodes.Goals as goal

pub nodes-init : goal.nodes-init
nodes-init g c = count_begins (nodes (g.B.BlockStore.blocks c.args.store.now) c.args.stream.now)

pub nodes-preserved : goal.nodes-preserved
nodes-preserved g c =
    let m = g.B.BlockStore.blocks c.args.store.now in
    count_more m (nodes m c.args.stream.now) c.requires.parts.each c.requires.parts.rising c.nodes.last c.in-Some.key c.in-Some.field-0-1.now c.in-Some.ensures c.nodes.count c.nodes.invariant

pub returns-in-None : goal.returns-in-None
returns-in-None g c =
    let m = g.B.BlockStore.blocks c.args.store.now in
    sym (node_ends m (nodes m c.args.stream.now) c.requires.parts.each c.requires.parts.rising c.nodes.last (λ before. length before ≡ c.nodes.count) c.nodes.invariant c.in-None.ensures)

pub returns : goal.returns
returns g c =
    let m = g.B.BlockStore.blocks c.args.store.now in
    let ps = nodes m c.args.stream.now in
    let few = few_nodes m ps c.requires.parts.each in
    let most = c.len-most.ensures m c.requires in
    omega (arith, few, most, c.nodes-test.false, counted_upto ps c.nodes.last c.nodes.count c.nodes.invariant)
