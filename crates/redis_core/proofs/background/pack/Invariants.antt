use Rattle.std.proofs.Common.{◌≡◌, ℕ}
use Rattle.keyspace.specs.Databases.{means, SameSettings}
use Rattle.keyspace.specs.Sound.{Sound}
use Rattle.redis_core.specs.Walking.{Packs}
use Rattle.redis_core.specs.Walking.{IsOpen}
use Rattle.redis_core.proofs.background.pack.Given as goal

abbrev pub invariant-loop : goal.invariant-loop
invariant-loop g l = record {
  packs : Packs g.B.BlockStore.blocks g.B.BlockStore.heap l.fn.keyspace l.fn.walk l.counter l.keyspace l.walk;
  sound : Sound l.keyspace.bases (g.B.BlockStore.blocks l.keyspace.store);
  walking : IsOpen l.walk;
  means : (number : ℕ) → means number l.keyspace.bases (g.B.BlockStore.blocks l.keyspace.store) ≡ means number l.fn.keyspace.bases (g.B.BlockStore.blocks l.fn.keyspace.store);
  settings : SameSettings l.fn.keyspace.bases l.keyspace.bases;
}
