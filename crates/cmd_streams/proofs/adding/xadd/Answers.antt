use Rattle.keyspace.specs.Scopes.{one_key}
use Rattle.keyspace.proofs.Running.{unchanged}
use Rattle.cmd_streams.proofs.adding.xadd.Goals as goal

pub returns-in-Other-clause-kept : goal.returns-in-Other-clause-kept
returns-in-Other-clause-kept g c = unchanged g.B.BlockStore.blocks g.B.BlockStore.step (one_key c.args.at.now.db c.args.key.now) c.args.keyspace.now c.refused.result c.requires.ready.sound

pub returns-then-options-clause-kept : goal.returns-then-options-clause-kept
returns-then-options-clause-kept g c = unchanged g.B.BlockStore.blocks g.B.BlockStore.step (one_key c.args.at.now.db c.args.key.now) c.args.keyspace.now c.null.result c.requires.ready.sound
