use Rattle.std.proofs.Common.{◌≡◌}
use Rattle.held.specs.Rehash.{Preserves, Steps}
use Rattle.held.proofs.keyspace.Keyspace.rehash.Given as goal

abbrev pub invariant-loop-made : goal.invariant-loop-made
invariant-loop-made g l = record {
  steps : Steps (g.B.BlockStore.blocks l.fn.self.store) l.fn.self.bases l.made l.self.bases;
  kept : Preserves g.V.Stored.refs_of g.V.Stored.value_of g.V.Stored.IsSound (g.B.BlockStore.blocks l.fn.self.store) l.fn.self.bases l.self.bases;
  store : l.self.store ≡ l.fn.self.store;
}
