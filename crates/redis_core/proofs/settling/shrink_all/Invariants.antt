use Rattle.std.specs.Prelude.{◌≡◌, ◌<◌, ℕ}
use Rattle.keyspace.specs.Databases.{means}
use Rattle.keyspace.specs.Scopes.{AreSettled}
use Rattle.keyspace.specs.Commands.{KeepsTo}
use Rattle.redis_core.specs.declared.settling.Touched.TheVariants.{All}
use Rattle.redis_core.specs.Touched.{shrinking}
use Rattle.redis_core.proofs.settling.shrink_all.Given as goal

abbrev pub invariant-loop-db : goal.invariant-loop-db
invariant-loop-db g l =
    let blocks = g.B.BlockStore.blocks in
    record {
      world : (number : ℕ) → means number l.keyspace.bases (blocks l.keyspace.store) ≡ means number l.fn.keyspace.bases (blocks l.fn.keyspace.store);
      held : KeepsTo blocks g.B.BlockStore.step (shrinking All) l.fn.keyspace l.keyspace;
      settled : (number : ℕ) → number < l.db → AreSettled l.keyspace.bases number;
    }
