use Rattle.std.proofs.Common.{◌≡◌, ℕ, ◌-◌, Option}
use Rattle.keyspace.specs.Databases.{Keyspace, means, SameSettings}
use Rattle.keyspace.specs.Sound.{Sound}
use Rattle.defrag.specs.declared.walk.Walk.{Walk}
use Rattle.redis_core.specs.Walking.{Defrags, IsOpen}
use Rattle.redis_core.proofs.background.defragment.Given as goal

abbrev pub invariant-loop : goal.invariant-loop
invariant-loop g l = record {
  left : (new : Keyspace _) (after : Option Walk) (ended : ℕ) → Defrags g.B.BlockStore.blocks g.B.BlockStore.heap (l.fn.steps - l.counter) l.keyspace new l.walk after ended
      → Defrags g.B.BlockStore.blocks g.B.BlockStore.heap l.fn.steps l.fn.keyspace new l.fn.walk after ended;
  sound : Sound l.keyspace.bases (g.B.BlockStore.blocks l.keyspace.store);
  walking : IsOpen l.walk;
  means : (number : ℕ) → means number l.keyspace.bases (g.B.BlockStore.blocks l.keyspace.store) ≡ means number l.fn.keyspace.bases (g.B.BlockStore.blocks l.fn.keyspace.store);
  settings : SameSettings l.fn.keyspace.bases l.keyspace.bases;
}
