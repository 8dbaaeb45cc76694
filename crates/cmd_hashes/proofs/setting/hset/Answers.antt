use Rattle.keyspace.specs.Scopes.{one_key}
use Rattle.keyspace.specs.Commands.{visible}
use Rattle.keyspace.proofs.Running.{unchanged}
use Rattle.cmd_hashes.proofs.Telling.{set_told}
use Rattle.cmd_hashes.proofs.setting.hset.Goals as goal

pub returns-in-Other-clause-kept : goal.returns-in-Other-clause-kept
returns-in-Other-clause-kept g c = unchanged g.B.BlockStore.blocks g.B.BlockStore.step (one_key c.args.at.now.db c.args.key.now) c.args.keyspace.now c.refused.result c.requires.ready.sound

pub returns-clause-gives : goal.returns-clause-gives
returns-clause-gives g c =
    let blocks = g.B.BlockStore.blocks in
    set_told (visible blocks c.args.keyspace.now c.args.at.now) (visible blocks c.set_at.new.keyspace c.args.at.now) c.args.key.now c.args.pairs.now _ c.in_ok-fresh.ensures.set
    c.count_reply.result c.count_reply.ensures
