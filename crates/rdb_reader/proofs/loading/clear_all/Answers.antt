use Rattle.std.proofs.Common.{[], arith, refl}
use Rattle.blocks.specs.Blocks.{no_step}
use Rattle.blocks.proofs.Serve.{served_then}
use Rattle.keyspace.specs.Scopes.{all_keys, anything}
use Rattle.keyspace.proofs.Calls.{settings_then}
use Rattle.keyspace.proofs.Serving.{unmoved, further, unbound}
use Rattle.rdb_reader.proofs.Clears.{next_cleared, all_cleared}
use Rattle.rdb_reader.proofs.loading.clear_all.Goals as goal

pub databases-init : goal.databases-init
databases-init g c = record {
  cleared = λ k below. absurd (omega (arith, below));
  sound = c.requires;
  served = no_step;
  settings = record { limits = refl; seed = refl; turn = refl };
  within =
      unmoved anything c.args.keyspace.now.bases (g.B.BlockStore.blocks c.args.keyspace.now.store);
}

pub databases-preserved : goal.databases-preserved
databases-preserved g c =
    let blocks = g.B.BlockStore.blocks in
    let before = c.databases.keyspace in
    let after = c.clear.new.self in
    record {
      cleared = next_cleared before.bases after.bases (blocks before.store) (blocks after.store) c.databases.db c.clear.ensures.means c.databases.invariant.cleared;
      sound = c.clear.ensures.sound [] c.databases.invariant.sound;
      served = served_then _ _ _ c.databases.invariant.served c.clear.ensures.served;
      within = further anything c.args.keyspace.now.bases before.bases after.bases (blocks c.args.keyspace.now.store) (blocks before.store) (blocks after.store)
          c.databases.invariant.within (unbound (all_keys c.databases.db) before.bases after.bases (blocks before.store) (blocks after.store) c.clear.ensures.within);
      settings = settings_then c.args.keyspace.now.bases before.bases after.bases c.databases.invariant.settings c.clear.ensures.settings;
    }

pub returns-clause-empty : goal.returns-clause-empty
returns-clause-empty g c =
    all_cleared c.databases.keyspace.bases (g.B.BlockStore.blocks c.databases.keyspace.store) c.databases.invariant.sound.arranged
    (λ k below. c.databases.invariant.cleared k (omega (arith, below, c.databases-test.false)))
