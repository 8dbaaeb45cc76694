use Rattle.std.proofs.Common.{length}
use Rattle.std.specs.Prelude.{false}
use Rattle.std.specs.List.{filter}
use Rattle.blocks.specs.Blocks.{Served}
use Rattle.stream_object.specs.Copied.{AreSame}
use Rattle.stream_object.specs.Found.{Exchanges}
use Rattle.stream_object.specs.Parts.{parts_of}
use Rattle.stream_object.specs.Ranges.{is_ahead}
use Rattle.stream_object.specs.Streams.{nodes}
use Rattle.stream_object.proofs.Copies.{is_behind}
use Rattle.stream_object.proofs.stream.Stream.copy_nodes.Given as goal

abbrev pub invariant-nodes : goal.invariant-nodes
invariant-nodes g l = record {
  made : Exchanges (g.B.BlockStore.blocks l.initial.store) (g.B.BlockStore.blocks l.store) l.initial.tree l.tree (parts_of (g.B.BlockStore.blocks l.store) l.tree);
  same : AreSame (filter (is_behind l.at) (nodes (g.B.BlockStore.blocks l.initial.store) l.self)) (parts_of (g.B.BlockStore.blocks l.store) l.tree);
  served : Served g.B.BlockStore.step l.initial.store l.store;
}

abbrev pub decreases-nodes : goal.decreases-nodes
decreases-nodes g l = length (filter (is_ahead false l.at) (nodes (g.B.BlockStore.blocks l.initial.store) l.self))
