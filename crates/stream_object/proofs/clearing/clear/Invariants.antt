use Rattle.std.proofs.Common.{length}
use Rattle.blocks.specs.Blocks.{Served}
use Rattle.stream_object.specs.Parts.{parts_of}
use Rattle.stream_object.specs.Found.{Exchanges}
use Rattle.stream_object.proofs.clearing.clear.Given as goal

abbrev pub invariant-loop-spot : goal.invariant-loop-spot
invariant-loop-spot g l = record {
  exchanges : Exchanges (g.B.BlockStore.blocks l.initial.store) (g.B.BlockStore.blocks l.store) l.initial.tree l.tree (parts_of (g.B.BlockStore.blocks l.store) l.tree);
  served : Served g.B.BlockStore.step l.initial.store l.store;
}

abbrev pub decreases-loop-spot : goal.decreases-loop-spot
decreases-loop-spot g l = length (parts_of (g.B.BlockStore.blocks l.store) l.tree)
