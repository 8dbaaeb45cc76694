use Rattle.blocks.specs.Blocks.{Served}
use Rattle.held.specs.Databases.{SameSettings}
use Rattle.held.proofs.Turns.{IsDropped}
use Rattle.held.proofs.keyspace.Keyspace.drop_found.Given as goal

abbrev pub invariant-loop-index : goal.invariant-loop-index
invariant-loop-index g l = record {
  dropped : IsDropped g.V.Stored.refs_of g.V.Stored.value_of g.V.Stored.IsSound l.found l.initial.self.bases l.self.bases (g.B.BlockStore.blocks l.initial.self.store)
      (g.B.BlockStore.blocks l.self.store) l.db l.moment l.index;
  served : Served g.B.BlockStore.step l.initial.self.store l.self.store;
  settings : SameSettings l.initial.self.bases l.self.bases;
}
