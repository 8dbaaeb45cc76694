use Rattle.std.proofs.Common.{◌≡◌, ◌++◌, map}
use Rattle.blocks.specs.Blocks.{Served}
use Rattle.stream_node.specs.declared.id.Id.{Id}
use Rattle.stream_node.specs.View.{stored}
use Rattle.stream_node.specs.Views.{left_of}
use Rattle.stream_object.specs.Loading.{AreAbove, AreLiveUpto, loaded}
use Rattle.stream_object.specs.Streams.{AreUpto, IsChanged, nodes, stream_of}
use Rattle.stream_object.proofs.stream.Stream.load_each.Given as goal

abbrev pub invariant-loop-entry : goal.invariant-loop-entry
invariant-loop-entry g l = record {
  joined : map stored l.yielded ++ left_of l.entry-iterator ≡ left_of l.initial.entry-iterator;
  changed : IsChanged (g.B.BlockStore.blocks l.initial.store) (g.B.BlockStore.blocks l.store) l.initial.self l.self
      (loaded (stream_of (g.B.BlockStore.blocks l.initial.store) l.initial.self) (map stored l.yielded));
  above : AreAbove (nodes (g.B.BlockStore.blocks l.store) l.self) (left_of l.entry-iterator);
  upto : (id : Id) → AreUpto id (nodes (g.B.BlockStore.blocks l.initial.store) l.initial.self) → AreLiveUpto id (map stored l.yielded) → AreUpto id (nodes (g.B.BlockStore.blocks l.store) l.self);
  served : Served g.B.BlockStore.step l.initial.store l.store;
}
