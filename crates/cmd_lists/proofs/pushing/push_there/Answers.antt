use Rattle.std.proofs.Common.{ap, refl, sym, ◌∙◌}
use Rattle.plain_model.specs.ListSteps.{added, push_there}
use Rattle.keyspace.specs.Forms.{list_at, risen_to}
use Rattle.keyspace.specs.Scopes.{one_key}
use Rattle.keyspace.specs.Commands.{visible}
use Rattle.keyspace.proofs.Forming.{formed_none}
use Rattle.keyspace.proofs.Running.{unchanged}
use Rattle.cmd_lists.proofs.Looking.{refused_other, told_none}
use Rattle.cmd_lists.proofs.Telling.{list_before, formed_risen, if_ok, number_calm}
use Rattle.cmd_lists.proofs.pushing.push_there.Goals as goal

pub returns-in-Other-clause-kept : goal.returns-in-Other-clause-kept
returns-in-Other-clause-kept g c = unchanged g.B.BlockStore.blocks g.B.BlockStore.step (one_key c.args.at.now.db c.args.key.now) c.args.keyspace.now c.refused.result c.requires.ready.sound

pub returns-clause-forms : goal.returns-clause-forms
returns-clause-forms g c =
    let blocks = g.B.BlockStore.blocks in
    let world = visible blocks c.args.keyspace.now c.args.at.now in
    let p = c.in_ok-push.ensures.changed in
    formed_risen _ blocks g.B.BlockStore.step c.args.keyspace.now c.change_list.new.keyspace c.args.at.now c.args.key.now p c.change_list.ensures.held
    (added c.args.end (list_at world c.args.key.now) c.args.words.now)
    (p.made.is ∙ ap (λ l. added c.args.end l c.args.words.now) (sym (list_before world c.args.key.now p.before p.stands))) (p.made.risen c.requires.some) _

pub returns-in-Missing-clause-kept : goal.returns-in-Missing-clause-kept
returns-in-Missing-clause-kept g c = unchanged g.B.BlockStore.blocks g.B.BlockStore.step (one_key c.args.at.now.db c.args.key.now) c.args.keyspace.now c.count_reply.result c.requires.ready.sound

pub returns-in-Other-clause-gives : goal.returns-in-Other-clause-gives
returns-in-Other-clause-gives g c =
    let world = visible g.B.BlockStore.blocks c.args.keyspace.now c.args.at.now in
    refused_other world c.args.key.now (push_there world c.args.end c.args.key.now c.args.words.now) c.refused.result c.in-Other.ensures c.refused.ensures

pub returns-in-Missing-clause-gives : goal.returns-in-Missing-clause-gives
returns-in-Missing-clause-gives g c =
    let world = visible g.B.BlockStore.blocks c.args.keyspace.now c.args.at.now in
    told_none world c.args.key.now (push_there world c.args.end c.args.key.now c.args.words.now) c.count_reply.result c.in-Missing.ensures c.count_reply.ensures refl

pub returns-clause-kept : goal.returns-clause-kept
returns-clause-kept g c = number_calm g.B.BlockStore.blocks g.B.BlockStore.step (one_key c.args.at.now.db c.args.key.now) c.args.keyspace.now c.change_list.new.keyspace _
    c.count_reply-2.result c.count_reply-2.ensures c.change_list.ensures.held

pub returns-in-Other-clause-forms : goal.returns-in-Other-clause-forms
returns-in-Other-clause-forms g c =
    let world = visible g.B.BlockStore.blocks c.args.keyspace.now c.args.at.now in
    if_ok c.refused.result
    (formed_none g.B.BlockStore.blocks (risen_to c.args.at.now.db world c.args.key.now (added c.args.end (list_at world c.args.key.now) c.args.words.now)) c.args.keyspace.now)

pub returns-in-Missing-clause-forms : goal.returns-in-Missing-clause-forms
returns-in-Missing-clause-forms g c =
    let world = visible g.B.BlockStore.blocks c.args.keyspace.now c.args.at.now in
    if_ok c.count_reply.result
    (formed_none g.B.BlockStore.blocks (risen_to c.args.at.now.db world c.args.key.now (added c.args.end (list_at world c.args.key.now) c.args.words.now)) c.args.keyspace.now)
