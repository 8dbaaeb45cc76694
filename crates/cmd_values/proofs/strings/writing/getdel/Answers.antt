use Rattle.std.proofs.Common.{[], rules}
use Rattle.cmd_values.proofs.StringLemmas.{removed}
use Rattle.keyspace.proofs.Running.{unchanged, held_unwritten}
use Rattle.keyspace.specs.Scopes.{no_key}
use Rattle.cmd_values.proofs.strings.writing.getdel.Goals as goal

pub returns-in-Some-clause-gives : goal.returns-in-Some-clause-gives
returns-in-Some-clause-gives g c = removed c.args.at.now c.args.keyspace.now.bases c.drop_hashed.new.self.bases _ _ c.args.key.now c.in-Some.reply
    (rw c.in-Some.is at c.in_ok-sought_value.ensures) c.drop_hashed.ensures.means

pub returns-in-Some-clause-kept : goal.returns-in-Some-clause-kept
returns-in-Some-clause-kept g c = record {
  refusals = search rules;
  held = held_unwritten g.B.BlockStore.blocks g.B.BlockStore.step (no_key c.args.at.now.db) c.args.keyspace.now c.drop_hashed.new.self (λ number key no. no.1) c.requires.ready.sound
      (c.drop_hashed.ensures.sound [] c.requires.ready.sound) c.drop_hashed.ensures.served c.drop_hashed.ensures.settings c.drop_hashed.ensures.within;
}

pub returns-in_err-sought_value-clause-kept : goal.returns-in_err-sought_value-clause-kept
returns-in_err-sought_value-clause-kept g c =
    unchanged g.B.BlockStore.blocks g.B.BlockStore.step (no_key c.args.at.now.db) c.args.keyspace.now _ c.requires.ready.sound

pub returns-in-None-clause-kept : goal.returns-in-None-clause-kept
returns-in-None-clause-kept g c =
    unchanged g.B.BlockStore.blocks g.B.BlockStore.step (no_key c.args.at.now.db) c.args.keyspace.now _ c.requires.ready.sound
