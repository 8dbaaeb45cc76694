use Rattle.std.proofs.Common.{◌≡◌, Option, IfOk, ap, sym, subst, ◌∙◌}
use Rattle.plain_model.specs.Outcomes.{Outcome, leaves}
use Rattle.plain_model.specs.ListSteps.{Elements, added, counted, or_none}
use Rattle.keyspace.specs.Forms.{list_at, risen_to}
use Rattle.keyspace.specs.Scopes.{one_key}
use Rattle.keyspace.specs.Commands.{visible}
use Rattle.keyspace.proofs.Forming.{formed_none}
use Rattle.keyspace.proofs.Running.{unchanged}
use Rattle.cmd_lists.proofs.Looking.{refused_other}
use Rattle.cmd_lists.proofs.Telling.{list_before, on_before, pushed_reply, formed_risen, if_ok, number_calm}
use Rattle.cmd_lists.proofs.pushing.push_words.Goals as goal

pub returns-in-Other-clause-kept : goal.returns-in-Other-clause-kept
returns-in-Other-clause-kept g c = unchanged g.B.BlockStore.blocks g.B.BlockStore.step (one_key c.args.at.now.db c.args.key.now) c.args.keyspace.now c.refused.result c.requires.ready.sound

pub returns-clause-forms : goal.returns-clause-forms
returns-clause-forms g c =
    let blocks = g.B.BlockStore.blocks in
    let world = visible blocks c.args.keyspace.now c.args.at.now in
    let p = c.in_ok-push.ensures.changed in
    formed_risen _ blocks g.B.BlockStore.step c.args.keyspace.now c.change_list.new.keyspace c.args.at.now c.args.key.now p c.change_list.ensures.held
    (added c.args.end (list_at world c.args.key.now) c.args.words.now)
    (p.made.is ∙ ap (λ l. added c.args.end l c.args.words.now) (sym (list_before world c.args.key.now p.before p.stands))) (p.made.risen c.requires.some) _

pub returns-in-Other-clause-gives : goal.returns-in-Other-clause-gives
returns-in-Other-clause-gives g c =
    let world = visible g.B.BlockStore.blocks c.args.keyspace.now c.args.at.now in
    let answer : Option Elements → Outcome = λ before. counted world c.args.key.now (added c.args.end (or_none before) c.args.words.now) in
    refused_other world c.args.key.now answer c.refused.result c.in-Other.ensures c.refused.ensures

pub returns-in-Other-clause-forms : goal.returns-in-Other-clause-forms
returns-in-Other-clause-forms g c =
    let world = visible g.B.BlockStore.blocks c.args.keyspace.now c.args.at.now in
    if_ok c.refused.result
    (formed_none g.B.BlockStore.blocks (risen_to c.args.at.now.db world c.args.key.now (added c.args.end (list_at world c.args.key.now) c.args.words.now)) c.args.keyspace.now)

pub returns-clause-gives : goal.returns-clause-gives
returns-clause-gives g c =
    let blocks = g.B.BlockStore.blocks in
    let world = visible blocks c.args.keyspace.now c.args.at.now in
    let new = visible blocks c.change_list.new.keyspace c.args.at.now in
    let p = c.in_ok-push.ensures.changed in
    let answer : Option Elements → Outcome = λ before. counted world c.args.key.now (added c.args.end (or_none before) c.args.words.now) in
    subst (λ (o : Outcome). IfOk c.count_reply.result (λ reply. o ≡ leaves reply new)) (sym (on_before world c.args.key.now p.before answer p.stands))
    (pushed_reply world new c.args.key.now c.args.end c.args.words.now p.now _ p.before p.from p.form p.made p.world c.count_reply.result c.count_reply.ensures)

pub returns-clause-kept : goal.returns-clause-kept
returns-clause-kept g c = number_calm g.B.BlockStore.blocks g.B.BlockStore.step (one_key c.args.at.now.db c.args.key.now) c.args.keyspace.now c.change_list.new.keyspace _
    c.count_reply.result c.count_reply.ensures c.change_list.ensures.held
