use Rattle.blocks.specs.Blocks.{Served}
use Rattle.held.proofs.Releases.{IsReleased}
use Rattle.held.proofs.keyspace.release_all.Given as goal

abbrev pub invariant-loop-at : goal.invariant-loop-at
invariant-loop-at g l = record {
  released : IsReleased (g.V.Stored.refs_of (g.B.BlockStore.blocks l.initial.store)) l.initial.table l.table l.at (g.B.BlockStore.blocks l.initial.store) (g.B.BlockStore.blocks l.store);
  served : Served g.B.BlockStore.step l.initial.store l.store;
}
