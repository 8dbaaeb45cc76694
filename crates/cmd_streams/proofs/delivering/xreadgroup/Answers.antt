use Rattle.keyspace.specs.Scopes.{asked_keys, some_keys}
use Rattle.keyspace.proofs.Running.{unchanged}
use Rattle.cmd_streams.proofs.delivering.xreadgroup.Goals as goal

pub returns-in-Some-clause-kept : goal.returns-in-Some-clause-kept
returns-in-Some-clause-kept g c = unchanged g.B.BlockStore.blocks g.B.BlockStore.step (some_keys c.args.at.now.db (asked_keys c.args.asked.now)) c.args.keyspace.now c.refused.result
    c.requires.ready.sound
