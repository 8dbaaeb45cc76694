use Rattle.keyspace.specs.Scopes.{one_key}
use Rattle.keyspace.specs.Commands.{visible}
use Rattle.keyspace.proofs.Running.{unchanged, calm}
use Rattle.cmd_sets.proofs.Telling.{number_calm, added_reply, formed_risen}
use Rattle.cmd_sets.proofs.adding.sadd.Goals as goal

pub returns-in-Other-clause-kept : goal.returns-in-Other-clause-kept
returns-in-Other-clause-kept g c = unchanged g.B.BlockStore.blocks g.B.BlockStore.step (one_key c.args.at.now.db c.args.key.now) c.args.keyspace.now c.refused.result c.requires.ready.sound

pub returns-clause-gives : goal.returns-clause-gives
returns-clause-gives g c =
    let blocks = g.B.BlockStore.blocks in
    let p = c.in_ok-add.ensures.changed in
    added_reply _ (visible blocks c.args.keyspace.now c.args.at.now) (visible blocks c.change_set.new.keyspace c.args.at.now) c.args.key.now c.args.members.now p.now _ p.before p.from p.form
    p.stands p.made p.world c.count_reply.result c.count_reply.ensures

pub returns-clause-kept : goal.returns-clause-kept
returns-clause-kept g c =
    calm g.B.BlockStore.blocks g.B.BlockStore.step (one_key c.args.at.now.db c.args.key.now) c.args.keyspace.now c.change_set.new.keyspace c.count_reply.result
    (number_calm _ c.count_reply.result c.count_reply.ensures) c.change_set.ensures.held

pub returns-clause-forms : goal.returns-clause-forms
returns-clause-forms g c =
    let p = c.in_ok-add.ensures.changed in
    formed_risen _ g.B.BlockStore.blocks g.B.BlockStore.step c.args.keyspace.now c.change_set.new.keyspace c.args.at.now c.args.key.now p c.change_set.ensures.held c.args.members.now
    p.made.risen c.count_reply.result
