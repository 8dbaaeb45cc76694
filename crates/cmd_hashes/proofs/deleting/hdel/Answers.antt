use Rattle.keyspace.specs.Scopes.{one_key}
use Rattle.keyspace.specs.Commands.{visible}
use Rattle.keyspace.proofs.Running.{unchanged}
use Rattle.keyspace.proofs.Settles.{settles_none, settles_ok}
use Rattle.cmd_hashes.proofs.Telling.{before_is, formed_as, if_ok, none_removed, removed_told}
use Rattle.cmd_hashes.proofs.deleting.hdel.Goals as goal

pub returns-in-Other-clause-kept : goal.returns-in-Other-clause-kept
returns-in-Other-clause-kept g c = unchanged g.B.BlockStore.blocks g.B.BlockStore.step (one_key c.args.at.now.db c.args.key.now) c.args.keyspace.now c.refused.result c.requires.ready.sound

pub returns-in-Missing-clause-kept : goal.returns-in-Missing-clause-kept
returns-in-Missing-clause-kept g c = unchanged g.B.BlockStore.blocks g.B.BlockStore.step (one_key c.args.at.now.db c.args.key.now) c.args.keyspace.now c.count_reply.result c.requires.ready.sound

pub returns-in-Missing-clause-gives : goal.returns-in-Missing-clause-gives
returns-in-Missing-clause-gives g c = none_removed (visible g.B.BlockStore.blocks c.args.keyspace.now c.args.at.now) c.args.key.now c.args.fields.now c.in-Missing.ensures
    c.count_reply.result c.count_reply.ensures

pub returns-clause-gives : goal.returns-clause-gives
returns-clause-gives g c =
    let blocks = g.B.BlockStore.blocks in
    let p = c.in_ok-remove.ensures.changed in
    removed_told (visible blocks c.args.keyspace.now c.args.at.now) (visible blocks c.change_hash.new.keyspace c.args.at.now) c.args.key.now c.args.fields.now _ p.before
    c.in-There.ensures.fields p.from p.now p.form p.stands c.in-There.ensures.has p.made p.world c.count_reply-2.result c.count_reply-2.ensures

pub returns-clause-forms : goal.returns-clause-forms
returns-clause-forms g c =
    let blocks = g.B.BlockStore.blocks in
    let p = c.in_ok-remove.ensures.changed in
    let fields = c.in-There.ensures.fields in
    if_ok c.count_reply-2.result
    (formed_as _ blocks g.B.BlockStore.step c.args.keyspace.now c.change_hash.new.keyspace c.args.at.now c.args.key.now p c.change_hash.ensures.held fields
    (before_is (visible blocks c.args.keyspace.now c.args.at.now) c.args.key.now p.before fields p.stands c.in-There.ensures.has) p.made.form_is)

pub returns-in-Other-clause-settles : goal.returns-in-Other-clause-settles
returns-in-Other-clause-settles g c =
    let blocks = g.B.BlockStore.blocks in
    let keyspace = c.args.keyspace.now in
    settles_ok blocks c.args.at.now c.args.key.now keyspace keyspace c.refused.result (settles_none blocks c.args.at.now c.args.key.now keyspace)

pub returns-in-Missing-clause-settles : goal.returns-in-Missing-clause-settles
returns-in-Missing-clause-settles g c =
    let blocks = g.B.BlockStore.blocks in
    let keyspace = c.args.keyspace.now in
    settles_ok blocks c.args.at.now c.args.key.now keyspace keyspace c.count_reply.result (settles_none blocks c.args.at.now c.args.key.now keyspace)

pub returns-clause-settles : goal.returns-clause-settles
returns-clause-settles g c =
    settles_ok g.B.BlockStore.blocks c.args.at.now c.args.key.now c.args.keyspace.now c.change_hash.new.keyspace c.count_reply-2.result c.in_ok-remove.ensures.settles
