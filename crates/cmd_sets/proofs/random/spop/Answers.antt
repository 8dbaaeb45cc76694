use Rattle.keyspace.specs.Scopes.{one_key}
use Rattle.keyspace.specs.Commands.{visible}
use Rattle.keyspace.proofs.Running.{unchanged, calm}
use Rattle.keyspace.proofs.Settles.{settles_none, settles_ok}
use Rattle.cmd_sets.proofs.Telling.{before_is, formed_as}
use Rattle.cmd_sets.proofs.Picking.{popped_reply, picks_calm}
use Rattle.cmd_sets.proofs.random.spop.Goals as goal

pub returns-in-Other-clause-kept : goal.returns-in-Other-clause-kept
returns-in-Other-clause-kept g c = unchanged g.B.BlockStore.blocks g.B.BlockStore.step (one_key c.args.at.now.db c.args.key.now) c.args.keyspace.now c.refused.result c.requires.ready.sound

pub returns-in-Missing-clause-kept : goal.returns-in-Missing-clause-kept
returns-in-Missing-clause-kept g c = unchanged g.B.BlockStore.blocks g.B.BlockStore.step (one_key c.args.at.now.db c.args.key.now) c.args.keyspace.now c.picks_reply.result c.requires.ready.sound

pub returns-clause-gives : goal.returns-clause-gives
returns-clause-gives g c =
    let blocks = g.B.BlockStore.blocks in
    let world = visible blocks c.args.keyspace.now c.args.at.now in
    let p = c.in_ok-pop.ensures.changed in
    let item = rw c.in-There.is at c.set_sought.ensures in
    popped_reply c.args.keyspace.now.bases.seed c.args.n c.is_some-2.result world (visible blocks c.change_set.new.keyspace c.args.at.now) c.args.key.now c.in_ok-pop.pop.gone.items
    item.members p.now p.before p.from p.form item.has
    (before_is world c.args.key.now p.before item.members p.stands item.has) p.made p.world c.is_some-2.ensures c.picks_reply-2.result c.picks_reply-2.ensures

pub returns-clause-kept : goal.returns-clause-kept
returns-clause-kept g c =
    calm g.B.BlockStore.blocks g.B.BlockStore.step (one_key c.args.at.now.db c.args.key.now) c.args.keyspace.now c.change_set.new.keyspace c.picks_reply-2.result
    (picks_calm c.is_some-2.result c.in_ok-pop.pop.gone.items c.picks_reply-2.result c.picks_reply-2.ensures) c.change_set.ensures.held

pub returns-clause-forms : goal.returns-clause-forms
returns-clause-forms g c =
    let blocks = g.B.BlockStore.blocks in
    let world = visible blocks c.args.keyspace.now c.args.at.now in
    let p = c.in_ok-pop.ensures.changed in
    let item = rw c.in-There.is at c.set_sought.ensures in
    formed_as _ blocks g.B.BlockStore.step c.args.keyspace.now c.change_set.new.keyspace c.args.at.now c.args.key.now p c.change_set.ensures.held item.members
    (before_is world c.args.key.now p.before item.members p.stands item.has) p.made.form_is c.picks_reply-2.result

pub returns-in-Other-clause-settles : goal.returns-in-Other-clause-settles
returns-in-Other-clause-settles g c =
    let blocks = g.B.BlockStore.blocks in
    let keyspace = c.args.keyspace.now in
    settles_ok blocks c.args.at.now c.args.key.now keyspace keyspace c.refused.result (settles_none blocks c.args.at.now c.args.key.now keyspace)

pub returns-in-Missing-clause-settles : goal.returns-in-Missing-clause-settles
returns-in-Missing-clause-settles g c =
    let blocks = g.B.BlockStore.blocks in
    let keyspace = c.args.keyspace.now in
    settles_ok blocks c.args.at.now c.args.key.now keyspace keyspace c.picks_reply.result (settles_none blocks c.args.at.now c.args.key.now keyspace)

pub returns-clause-settles : goal.returns-clause-settles
returns-clause-settles g c =
    settles_ok g.B.BlockStore.blocks c.args.at.now c.args.key.now c.args.keyspace.now c.change_set.new.keyspace c.picks_reply-2.result c.in_ok-pop.ensures.settles
