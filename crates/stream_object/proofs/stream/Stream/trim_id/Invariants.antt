use Rattle.std.proofs.Common.{◌≤◌, ◌-◌}
use Rattle.blocks.specs.Blocks.{Served}
use Rattle.stream_object.specs.Streams.{IsChanged, entries, stream_of, dropping}
use Rattle.stream_object.specs.Below.{count_low}
use Rattle.stream_object.proofs.stream.Stream.trim_id.Given as goal

abbrev pub invariant-nodes : goal.invariant-nodes
invariant-nodes g l = record {
  fewer : l.self.len ≤ l.initial.self.len;
  few : l.initial.self.len - l.self.len ≤ count_low l.least (entries (g.B.BlockStore.blocks l.initial.store) l.initial.self);
  changed : IsChanged (g.B.BlockStore.blocks l.initial.store) (g.B.BlockStore.blocks l.store) l.initial.self l.self
      (dropping (stream_of (g.B.BlockStore.blocks l.initial.store) l.initial.self) (l.initial.self.len - l.self.len));
  served : Served g.B.BlockStore.step l.initial.store l.store;
}

abbrev pub decreases-nodes : goal.decreases-nodes
decreases-nodes g l = l.self.len
