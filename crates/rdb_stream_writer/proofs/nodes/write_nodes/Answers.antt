use Rattle.std.proofs.Common.{rules, length, ◌++◌}
use Rattle.std.specs.Prelude.{flat_map}
use Rattle.stream_object.specs.Streams.{nodes}
use Rattle.rdb_parts.specs.Pens.{Adds}
use Rattle.rdb_parts.specs.Words.{length_word}
use Rattle.rdb_parts.proofs.Penned.{lost_then}
use Rattle.rdb_stream_writer.specs.Nodes.{node_word}
use Rattle.rdb_stream_writer.proofs.NodeWalks.{node_begins, node_more, node_shorter, node_ends}
use Rattle.rdb_stream_writer.proofs.nodes.write_nodes.Goals as goal

pub nodes-init : goal.nodes-init
nodes-init g c =
    node_begins (nodes (g.B.BlockStore.blocks c.args.store.now) c.args.stream.now) (g.F.Shelf.seen c.args.shelf.now) (g.F.Shelf.seen c.write_length.new.shelf) c.args.pen.now c.write_length.new.pen c.count_nodes.result
    c.in_ok-write_length.ensures c.count_nodes.ensures

pub returns-in_err-write_node : goal.returns-in_err-write_node
returns-in_err-write_node g c =
    let lost = lost_then _ _ _ c.args.pen.now c.nodes.pen _ c.nodes.invariant.holds c.in_err-write_node.ensures in
    search (rules, lost)

pub nodes-smaller : goal.nodes-smaller
nodes-smaller g c =
    let m = g.B.BlockStore.blocks c.args.store.now in
    let ps = nodes m c.args.stream.now in
    node_shorter m ps c.requires.parts.each c.requires.parts.rising c.nodes.last c.in-Some.key c.in-Some.bytes.now c.in-Some.ensures
    (λ before. Adds (g.F.Shelf.seen c.args.shelf.now) (g.F.Shelf.seen c.nodes.shelf) c.args.pen.now c.nodes.pen (length_word (length ps) ++ flat_map node_word before)) c.nodes.invariant

pub nodes-preserved : goal.nodes-preserved
nodes-preserved g c =
    let m = g.B.BlockStore.blocks c.args.store.now in
    node_more m (nodes m c.args.stream.now) c.requires.parts.each c.requires.parts.rising c.nodes.last c.in-Some.key c.in-Some.bytes.now c.in-Some.ensures (g.F.Shelf.seen c.args.shelf.now) (g.F.Shelf.seen c.nodes.shelf)
    (g.F.Shelf.seen c.write_node.new.shelf) c.args.pen.now c.nodes.pen c.write_node.new.pen c.nodes.invariant c.in_ok-write_node.ensures

pub returns : goal.returns
returns g c =
    let m = g.B.BlockStore.blocks c.args.store.now in
    let ps = nodes m c.args.stream.now in
    node_ends m ps c.requires.parts.each c.requires.parts.rising c.nodes.last
    (λ before. Adds (g.F.Shelf.seen c.args.shelf.now) (g.F.Shelf.seen c.nodes.shelf) c.args.pen.now c.nodes.pen (length_word (length ps) ++ flat_map node_word before)) c.nodes.invariant c.in_default.ensures
