use Rattle.std.proofs.Common.{◌-◌, ◌≤◌}
use Rattle.blocks.specs.Blocks.{Served}
use Rattle.stream_object.specs.Streams.{IsChanged, stream_of, dropping}
use Rattle.stream_object.proofs.stream.Stream.drop_front.Given as goal

abbrev pub invariant-loop-left : goal.invariant-loop-left
invariant-loop-left g l = record {
  few : l.left ≤ l.fn.count;
  len : l.left ≤ l.self.len;
  changed : IsChanged (g.B.BlockStore.blocks l.initial.store) (g.B.BlockStore.blocks l.store) l.initial.self l.self
      (dropping (stream_of (g.B.BlockStore.blocks l.initial.store) l.initial.self) (l.fn.count - l.left));
  served : Served g.B.BlockStore.step l.initial.store l.store;
}

abbrev pub decreases-loop-left : goal.decreases-loop-left
decreases-loop-left g l = l.left
