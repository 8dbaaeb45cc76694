use Rattle.std.proofs.Common.{◌≡◌, ◌*◌, ◌≤◌}
use Rattle.blocks.specs.Blocks.{Served}
use Rattle.held.specs.Expiry.{Expired}
use Rattle.held.proofs.Turns.{Outlives}
use Rattle.held.proofs.keyspace.Keyspace.expire.Given as goal

abbrev pub invariant-loop : goal.invariant-loop
invariant-loop g l = record {
  steps : Expired g.V.Stored.refs_of l.moment l.initial.self.bases (g.B.BlockStore.blocks l.initial.self.store) l.counter l.dropped l.self.bases (g.B.BlockStore.blocks l.self.store);
  outlives : Outlives g.V.Stored.refs_of g.V.Stored.value_of g.V.Stored.IsSound l.initial.self.bases l.self.bases (g.B.BlockStore.blocks l.initial.self.store)
      (g.B.BlockStore.blocks l.self.store) l.moment;
  served : Served g.B.BlockStore.step l.initial.self.store l.self.store;
  few : l.dropped ≤ 16 * l.counter;
  none : l.counter ≡ 0 → l.self ≡ l.initial.self;
}
