use Rattle.keyspace.specs.Commands.{visible}
use Rattle.cmd_values.proofs.StringLemmas.{old_value_then}
use Rattle.keyspace.proofs.Running.{unchanged}
use Rattle.keyspace.specs.Scopes.{no_key}
use Rattle.cmd_values.proofs.strings.lasting.get_persisting.Goals as goal

pub returns-in_ok-_had-in-Some-clause-gives : goal.returns-in_ok-_had-in-Some-clause-gives
returns-in_ok-_had-in-Some-clause-gives g c =
    old_value_then (visible g.B.BlockStore.blocks c.args.keyspace.now c.args.at.now) (visible g.B.BlockStore.blocks c.persist_sought.new.keyspace c.args.at.now) c.args.key.now c.in-Some.reply
    _ (rw c.in-Some.is at c.in_ok-sought_value.ensures) c.in_ok-_had-in-Some.ensures.world

pub returns-in_err-sought_value-clause-kept : goal.returns-in_err-sought_value-clause-kept
returns-in_err-sought_value-clause-kept g c =
    unchanged g.B.BlockStore.blocks g.B.BlockStore.step (no_key c.args.at.now.db) c.args.keyspace.now _ c.requires.ready.sound

pub returns-in-None-clause-kept : goal.returns-in-None-clause-kept
returns-in-None-clause-kept g c =
    unchanged g.B.BlockStore.blocks g.B.BlockStore.step (no_key c.args.at.now.db) c.args.keyspace.now _ c.requires.ready.sound
