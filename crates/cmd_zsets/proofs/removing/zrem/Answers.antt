use Rattle.plain_model.specs.ZsetSteps.{drop_members}
use Rattle.keyspace.specs.Scopes.{one_key}
use Rattle.keyspace.specs.Forms.{AsAt}
use Rattle.keyspace.specs.Commands.{visible}
use Rattle.keyspace.proofs.Forming.{formed_none}
use Rattle.keyspace.proofs.Running.{unchanged}
use Rattle.keyspace.proofs.Settles.{settles_none, settles_ok}
use Rattle.cmd_zsets.proofs.Looking.{refused_other}
use Rattle.cmd_zsets.proofs.Telling.{before_is, counted_calm, formed_as, if_ok, none_removed, removed_told}
use Rattle.cmd_zsets.proofs.removing.zrem.Goals as goal

pub returns-in-Other-clause-kept : goal.returns-in-Other-clause-kept
returns-in-Other-clause-kept g c = unchanged g.B.BlockStore.blocks g.B.BlockStore.step (one_key c.args.at.now.db c.args.key.now) c.args.keyspace.now c.refused.result c.requires.ready.sound

pub returns-in-Other-clause-gives : goal.returns-in-Other-clause-gives
returns-in-Other-clause-gives g c =
    let world = visible g.B.BlockStore.blocks c.args.keyspace.now c.args.at.now in
    refused_other world c.args.key.now (drop_members world c.args.key.now c.args.members.now) c.refused.result c.in-Other.ensures c.refused.ensures

pub returns-in-Other-clause-forms : goal.returns-in-Other-clause-forms
returns-in-Other-clause-forms g c = if_ok c.refused.result (formed_none g.B.BlockStore.blocks (AsAt c.args.at.now.db c.args.key.now) c.args.keyspace.now)

pub returns-in-Missing-clause-forms : goal.returns-in-Missing-clause-forms
returns-in-Missing-clause-forms g c = if_ok c.count_reply.result (formed_none g.B.BlockStore.blocks (AsAt c.args.at.now.db c.args.key.now) c.args.keyspace.now)

pub returns-in-Missing-clause-kept : goal.returns-in-Missing-clause-kept
returns-in-Missing-clause-kept g c = unchanged g.B.BlockStore.blocks g.B.BlockStore.step (one_key c.args.at.now.db c.args.key.now) c.args.keyspace.now c.count_reply.result c.requires.ready.sound

pub returns-in-Missing-clause-gives : goal.returns-in-Missing-clause-gives
returns-in-Missing-clause-gives g c = none_removed (visible g.B.BlockStore.blocks c.args.keyspace.now c.args.at.now) c.args.key.now c.args.members.now c.in-Missing.ensures
    c.count_reply.result c.count_reply.ensures

pub returns-clause-gives : goal.returns-clause-gives
returns-clause-gives g c =
    let blocks = g.B.BlockStore.blocks in
    let p = c.in_ok-remove.ensures.changed in
    removed_told (visible blocks c.args.keyspace.now c.args.at.now) (visible blocks c.change_zset.new.keyspace c.args.at.now) c.args.key.now c.args.members.now _ p.before
    c.in-There.ensures.scores p.from p.now p.form p.stands c.in-There.ensures.has p.made p.world c.count_reply-2.result c.count_reply-2.ensures

pub returns-clause-forms : goal.returns-clause-forms
returns-clause-forms g c =
    let blocks = g.B.BlockStore.blocks in
    let p = c.in_ok-remove.ensures.changed in
    let scores = c.in-There.ensures.scores in
    if_ok c.count_reply-2.result
    (formed_as _ blocks g.B.BlockStore.step c.args.keyspace.now c.change_zset.new.keyspace c.args.at.now c.args.key.now p c.change_zset.ensures.held scores
    (before_is (visible blocks c.args.keyspace.now c.args.at.now) c.args.key.now p.before scores p.stands c.in-There.ensures.has) p.made.form_is)

pub returns-in-Other-clause-settles : goal.returns-in-Other-clause-settles
returns-in-Other-clause-settles g c =
    let blocks = g.B.BlockStore.blocks in
    let keyspace = c.args.keyspace.now in
    settles_ok blocks c.args.at.now c.args.key.now keyspace keyspace c.refused.result (settles_none blocks c.args.at.now c.args.key.now keyspace)

pub returns-in-Missing-clause-settles : goal.returns-in-Missing-clause-settles
returns-in-Missing-clause-settles g c =
    let blocks = g.B.BlockStore.blocks in
    let keyspace = c.args.keyspace.now in
    settles_ok blocks c.args.at.now c.args.key.now keyspace keyspace c.count_reply.result (settles_none blocks c.args.at.now c.args.key.now keyspace)

pub returns-clause-settles : goal.returns-clause-settles
returns-clause-settles g c =
    settles_ok g.B.BlockStore.blocks c.args.at.now c.args.key.now c.args.keyspace.now c.change_zset.new.keyspace c.count_reply-2.result c.in_ok-remove.ensures.settles

pub returns-clause-kept : goal.returns-clause-kept
returns-clause-kept g c = counted_calm g.B.BlockStore.blocks g.B.BlockStore.step (one_key c.args.at.now.db c.args.key.now) c.args.keyspace.now c.change_zset.new.keyspace _
    c.count_reply-2.result c.count_reply-2.ensures c.change_zset.ensures.held
