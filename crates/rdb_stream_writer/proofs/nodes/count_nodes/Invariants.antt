use Rattle.std.proofs.Common.{◌≡◌, length, ◌-◌}
use Rattle.stream_object.specs.Streams.{nodes}
use Rattle.rdb_stream_writer.proofs.NodeWalks.{NodeWalk}
use Rattle.rdb_stream_writer.proofs.nodes.count_nodes.Given as goal

abbrev pub invariant-nodes : goal.invariant-nodes
invariant-nodes g l = NodeWalk (λ before. length before ≡ l.count) (nodes (g.B.BlockStore.blocks l.store) l.stream) l.last

abbrev pub decreases-nodes : goal.decreases-nodes
decreases-nodes g l = l.most - l.count
