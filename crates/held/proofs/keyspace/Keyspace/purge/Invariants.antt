use Rattle.blocks.specs.Blocks.{Served}
use Rattle.held.specs.Databases.{SameSettings}
use Rattle.held.specs.Scopes.{no_key, Within}
use Rattle.held.proofs.Purging.{IsPurged}
use Rattle.held.proofs.keyspace.Keyspace.purge.Given as goal

abbrev pub invariant-loop-at : goal.invariant-loop-at
invariant-loop-at g l = record {
  purged : IsPurged g.V.Stored.refs_of g.V.Stored.value_of g.V.Stored.IsSound l.initial.self.bases l.self.bases (g.B.BlockStore.blocks l.initial.self.store)
      (g.B.BlockStore.blocks l.self.store) l.db l.moment l.at l.count;
  served : Served g.B.BlockStore.step l.initial.self.store l.self.store;
  within : Within g.V.Stored.refs_of (no_key l.db) l.initial.self.bases l.self.bases (g.B.BlockStore.blocks l.initial.self.store) (g.B.BlockStore.blocks l.self.store);
  settings : SameSettings l.initial.self.bases l.self.bases;
}
