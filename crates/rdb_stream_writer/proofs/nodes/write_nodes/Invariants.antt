use Rattle.std.proofs.Common.{length, ◌++◌}
use Rattle.std.specs.Prelude.{flat_map}
use Rattle.stream_object.specs.Streams.{nodes}
use Rattle.rdb_parts.specs.Pens.{Adds}
use Rattle.rdb_parts.specs.Words.{length_word}
use Rattle.rdb_stream_writer.specs.Nodes.{node_word, behind}
use Rattle.rdb_stream_writer.proofs.NodeWalks.{NodeWalk}
use Rattle.rdb_stream_writer.proofs.nodes.write_nodes.Given as goal

abbrev pub invariant-nodes : goal.invariant-nodes
invariant-nodes g l =
    let ps = nodes (g.B.BlockStore.blocks l.store) l.stream in
    NodeWalk (λ before. Adds (g.F.Shelf.seen l.fn.shelf) (g.F.Shelf.seen l.shelf) l.fn.pen l.pen (length_word (length ps) ++ flat_map node_word before)) ps l.last

abbrev pub decreases-nodes : goal.decreases-nodes
decreases-nodes g l = length (behind l.last (nodes (g.B.BlockStore.blocks l.store) l.stream))
