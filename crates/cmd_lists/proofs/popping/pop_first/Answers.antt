use Rattle.keyspace.specs.Scopes.{one_key}
use Rattle.keyspace.specs.Commands.{visible}
use Rattle.keyspace.proofs.Running.{unchanged}
use Rattle.cmd_lists.proofs.Telling.{before_is, formed_as, popped_gives, popped_calm}
use Rattle.cmd_lists.proofs.popping.pop_first.Goals as goal

pub returns-in-Other-clause-kept : goal.returns-in-Other-clause-kept
returns-in-Other-clause-kept g c = unchanged g.B.BlockStore.blocks g.B.BlockStore.step (one_key c.args.at.now.db c.args.key.now) c.args.keyspace.now c.refused.result c.requires.ready.sound

pub returns-in-Missing-clause-kept : goal.returns-in-Missing-clause-kept
returns-in-Missing-clause-kept g c = unchanged g.B.BlockStore.blocks g.B.BlockStore.step (one_key c.args.at.now.db c.args.key.now) c.args.keyspace.now c.null.result c.requires.ready.sound

pub returns-clause-gives : goal.returns-clause-gives
returns-clause-gives g c =
    let world = visible g.B.BlockStore.blocks c.args.keyspace.now c.args.at.now in
    let p = c.in_ok-pop.ensures.changed in
    popped_gives world _ c.args.key.now c.args.end _ p.before c.in-There.ensures.list p.from p.now p.form p.stands c.in-There.ensures.has p.made p.world c.element_reply.result c.element_reply.ensures

pub returns-clause-kept : goal.returns-clause-kept
returns-clause-kept g c =
    popped_calm g.B.BlockStore.blocks g.B.BlockStore.step (one_key c.args.at.now.db c.args.key.now) c.args.keyspace.now c.change_list.new.keyspace _ c.element_reply.result
    c.element_reply.ensures c.change_list.ensures.held

pub returns-clause-forms : goal.returns-clause-forms
returns-clause-forms g c =
    let p = c.in_ok-pop.ensures.changed in
    formed_as _ g.B.BlockStore.blocks g.B.BlockStore.step c.args.keyspace.now c.change_list.new.keyspace c.args.at.now c.args.key.now p c.change_list.ensures.held c.in-There.ensures.list
    (before_is _ c.args.key.now p.before c.in-There.ensures.list p.stands c.in-There.ensures.has) p.made.form_is _
