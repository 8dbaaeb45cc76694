use Rattle.std.proofs.Common.{◌≡◌, ◌<◌, ℕ}
use Rattle.blocks.specs.Blocks.{Served}
use Rattle.plain_world.specs.Worlds.{no_keys}
use Rattle.keyspace.specs.Databases.{means, SameSettings}
use Rattle.keyspace.specs.Sound.{Sound}
use Rattle.keyspace.specs.Scopes.{anything, Within}
use Rattle.rdb_reader.proofs.loading.clear_all.Given as goal

abbrev pub invariant-databases : goal.invariant-databases
invariant-databases g l =
    let blocks = g.B.BlockStore.blocks in
    record {
      cleared : (k : ℕ) → k < l.db → (means 0 l.keyspace.bases (blocks l.keyspace.store)).bases k ≡ no_keys;
      sound : Sound l.keyspace.bases (blocks l.keyspace.store);
      served : Served g.B.BlockStore.step l.fn.keyspace.store l.keyspace.store;
      settings : SameSettings l.fn.keyspace.bases l.keyspace.bases;
      within : Within anything l.fn.keyspace.bases l.keyspace.bases (blocks l.fn.keyspace.store) (blocks l.keyspace.store);
    }
