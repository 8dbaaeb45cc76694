use Rattle.std.proofs.Common.{◌+◌, ◌-◌, ◌*◌, ◌≤◌, cond, is_some}
use Rattle.held.specs.Relocation.{Relocates, SameTops}
use Rattle.defrag.specs.Swept.{IsSwept}
use Rattle.defrag.specs.Ways.{shapes, SameShapes, Way}
use Rattle.defrag.proofs.walk.Walk.step.Given as goal

abbrev pub invariant-legs : goal.invariant-legs
invariant-legs g l = record {
  relocates : Relocates g.V.Stored.refs_of g.V.Stored.value_of g.V.Stored.IsSound l.initial.keyspace.bases l.keyspace.bases (g.B.BlockStore.blocks l.initial.keyspace.store)
      (g.B.BlockStore.blocks l.keyspace.store);
  same : SameShapes (g.V.Stored.marks (g.B.BlockStore.blocks l.initial.keyspace.store)) (g.V.Stored.marks (g.B.BlockStore.blocks l.keyspace.store)) l.initial.keyspace.bases l.keyspace.bases;
  tops : SameTops l.initial.keyspace.bases l.keyspace.bases;
  encodings : SameShapes g.V.Stored.encoding g.V.Stored.encoding l.initial.keyspace.bases l.keyspace.bases;
  tables : SameShapes (g.V.Stored.tables (g.B.BlockStore.blocks l.initial.keyspace.store)) (g.V.Stored.tables (g.B.BlockStore.blocks l.keyspace.store)) l.initial.keyspace.bases l.keyspace.bases;
  swept : IsSwept (g.V.Stored.refs_of (g.B.BlockStore.blocks l.initial.keyspace.store)) (g.V.Stored.marks (g.B.BlockStore.blocks l.initial.keyspace.store)) l.initial.keyspace.bases
      (g.B.BlockStore.heap l.initial.keyspace.store) l.initial.self
      → IsSwept (g.V.Stored.refs_of (g.B.BlockStore.blocks l.keyspace.store)) (g.V.Stored.marks (g.B.BlockStore.blocks l.keyspace.store)) l.keyspace.bases
      (g.B.BlockStore.heap l.keyspace.store) l.self;
  way : Way (shapes (g.V.Stored.marks (g.B.BlockStore.blocks l.initial.keyspace.store)) l.initial.keyspace.bases) l.initial.self (64 - l.left) l.self;
  few : l.left ≤ 64;
  inside : l.self.database ≤ 16;
}

abbrev pub decreases-legs : goal.decreases-legs
decreases-legs g l = 2 * l.left + cond (is_some l.self.mark) 1 0
