use Rattle.std.proofs.Common.{◌≡◌, ◌-◌, ◌≤◌}
use Rattle.defrag.specs.Swept.{IsSwept}
use Rattle.defrag.specs.Ways.{shapes, Way}
use Rattle.defrag.proofs.walk.Walk.pass_calm.Given as goal

abbrev pub invariant-keys : goal.invariant-keys
invariant-keys g l = record {
  swept : IsSwept (g.V.Stored.refs_of (g.B.BlockStore.blocks l.initial.keyspace.store)) (g.V.Stored.marks (g.B.BlockStore.blocks l.initial.keyspace.store)) l.initial.keyspace.bases
      (g.B.BlockStore.heap l.initial.keyspace.store) l.initial.self
      → IsSwept (g.V.Stored.refs_of (g.B.BlockStore.blocks l.initial.keyspace.store)) (g.V.Stored.marks (g.B.BlockStore.blocks l.initial.keyspace.store)) l.initial.keyspace.bases
      (g.B.BlockStore.heap l.initial.keyspace.store) (record l.initial.self { item = l.item });
  way : Way (shapes (g.V.Stored.marks (g.B.BlockStore.blocks l.initial.keyspace.store)) l.initial.keyspace.bases) l.initial.self (l.initial.left - l.left) (record l.initial.self { item = l.item });
  few : l.left ≤ l.initial.left;
  none : l.left ≡ l.initial.left → l.item ≡ l.initial.self.item;
}

abbrev pub decreases-keys : goal.decreases-keys
decreases-keys g l = l.left
