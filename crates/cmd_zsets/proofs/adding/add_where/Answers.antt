use Rattle.keyspace.specs.Scopes.{one_key}
use Rattle.keyspace.proofs.Running.{unchanged}
use Rattle.cmd_zsets.proofs.adding.add_where.Goals as goal

pub returns-then-is_none-clause-kept : goal.returns-then-is_none-clause-kept
returns-then-is_none-clause-kept g c = unchanged g.B.BlockStore.blocks g.B.BlockStore.step (one_key c.args.at.now.db c.args.key.now) c.args.keyspace.now c.count_reply.result c.requires.ready.sound
