use Rattle.std.proofs.Common.{[], arith}
use Rattle.keyspace.proofs.Serving.{both, unmoved, further}
use Rattle.held.proofs.Within.{within_wider}
use Rattle.keyspace.specs.Values.{value_refs}
use Rattle.keyspace.specs.Scopes.{all_keys, everything}
use Rattle.keyspace.proofs.Calls.{settings_then}
use Rattle.cmd_keys.proofs.Emptying.{one_emptied, all_emptied}
use Rattle.keyspace.proofs.Running.{same_settings, held_unwritten}
use Rattle.blocks.specs.Blocks.{no_step}
use Rattle.cmd_keys.proofs.connection.clear_all.Goals as goal

pub loop-db-preserved : goal.loop-db-preserved
loop-db-preserved g c = record {
  empty = one_emptied c.loop-db.keyspace.bases c.clear.new.self.bases _ _ c.loop-db.db c.loop-db.invariant.empty c.clear.ensures.means;
  sound = c.clear.ensures.sound [] c.loop-db.invariant.sound;
  served = both g.B.BlockStore.step _ _ _ c.loop-db.invariant.served c.clear.ensures.served;
  settings = settings_then _ _ _ c.loop-db.invariant.settings c.clear.ensures.settings;
  within = further everything _ _ _ _ _ _ c.loop-db.invariant.within
      (within_wider value_refs (all_keys c.loop-db.db) everything (λ n here. tt) (λ n key no. no) (λ n here. tt) c.loop-db.keyspace.bases c.clear.new.self.bases _ _
      c.clear.ensures.within);
}

pub returns-clause-world : goal.returns-clause-world
returns-clause-world g c = all_emptied c.args.at.now c.loop-db.keyspace.bases _ c.loop-db.invariant.sound.arranged.sixteen c.loop-db.db (omega arith) c.loop-db.invariant.empty

pub loop-db-init : goal.loop-db-init
loop-db-init g c =
    record {
      empty = λ number below. absurd (omega (arith, below));
      sound = c.requires.ready.sound;
      served = no_step;
      within =
          unmoved everything c.args.keyspace.now.bases (g.B.BlockStore.blocks c.args.keyspace.now.store);
      settings = same_settings c.args.keyspace.now.bases;
    }

pub returns-clause-emptied : goal.returns-clause-emptied
returns-clause-emptied g c number below = c.loop-db.invariant.empty number (omega (arith, below))

pub returns-clause-held : goal.returns-clause-held
returns-clause-held g c =
    held_unwritten g.B.BlockStore.blocks g.B.BlockStore.step everything c.args.keyspace.now c.loop-db.keyspace (λ number key no. no) c.requires.ready.sound c.loop-db.invariant.sound
    c.loop-db.invariant.served c.loop-db.invariant.settings c.loop-db.invariant.within
