use Rattle.std.proofs.Common.{◌≡◌, Option, Some, IfOk, length, refl, sym, ap, subst, ◌∙◌}
use Rattle.std.specs.List.{insert}
use Rattle.plain_model.specs.ListSteps.{Elements, or_none, inserted_beside, insert_beside}
use Rattle.keyspace.specs.Forms.{Formed, list_at, inserted_to}
use Rattle.keyspace.specs.Scopes.{one_key}
use Rattle.keyspace.specs.Commands.{visible}
use Rattle.keyspace.proofs.Forming.{formed_none}
use Rattle.keyspace.proofs.Running.{unchanged}
use Rattle.cmd_lists.proofs.Looking.{refused_other, told_none}
use Rattle.cmd_lists.proofs.Beside.{none_told, beside_told}
use Rattle.cmd_lists.proofs.Setting.{inside_before}
use Rattle.cmd_lists.proofs.Telling.{before_is, list_before, formed_risen, if_ok, number_calm}
use Rattle.cmd_lists.proofs.inserting.linsert.Goals as goal

pub returns-in-Other-clause-kept : goal.returns-in-Other-clause-kept
returns-in-Other-clause-kept g c = unchanged g.B.BlockStore.blocks g.B.BlockStore.step (one_key c.args.at.now.db c.args.key.now) c.args.keyspace.now c.refused.result c.requires.ready.sound

pub returns-in-Missing-clause-kept : goal.returns-in-Missing-clause-kept
returns-in-Missing-clause-kept g c = unchanged g.B.BlockStore.blocks g.B.BlockStore.step (one_key c.args.at.now.db c.args.key.now) c.args.keyspace.now c.count_reply.result c.requires.ready.sound

pub returns-in-None-clause-kept : goal.returns-in-None-clause-kept
returns-in-None-clause-kept g c = unchanged g.B.BlockStore.blocks g.B.BlockStore.step (one_key c.args.at.now.db c.args.key.now) c.args.keyspace.now c.number.result c.requires.ready.sound

pub returns-clause-forms : goal.returns-clause-forms
returns-clause-forms g c =
    let stores = g.B.BlockStore.blocks in
    let world = visible stores c.args.keyspace.now c.args.at.now in
    let key = c.args.key.now in
    let list = c.in-There.ensures.list in
    let has = c.in-There.ensures.has in
    let p = c.in_ok-insert.ensures.changed in
    let was : or_none p.before ≡ list = ap or_none (before_is world key p.before list p.stands has) in
    let found : inserted_beside c.args.side c.args.pivot.now c.args.element.now (list_at world key) ≡ Some (insert list c.in-Some.index c.args.element.now) =
    ap (inserted_beside c.args.side c.args.pivot.now c.args.element.now) (list_before world key p.before p.stands ∙ was) ∙ (c.in-Some.ensures list has).1 c.args.element.now in
    subst (λ (o : Option Elements). IfOk c.count_reply-2.result (λ reply. Formed stores (inserted_to c.args.at.now.db world key o) c.args.keyspace.now c.change_list.new.keyspace)) (sym found)
    (formed_risen _ stores g.B.BlockStore.step c.args.keyspace.now c.change_list.new.keyspace c.args.at.now key p c.change_list.ensures.held (insert list c.in-Some.index c.args.element.now)
    (p.made.is ∙ ap (λ (l : Elements). insert l c.in-Some.index c.args.element.now) was) p.made.risen c.count_reply-2.result)

pub returns-in-Other-clause-gives : goal.returns-in-Other-clause-gives
returns-in-Other-clause-gives g c =
    let world = visible g.B.BlockStore.blocks c.args.keyspace.now c.args.at.now in
    refused_other world c.args.key.now (insert_beside world c.args.key.now c.args.side c.args.pivot.now c.args.element.now) c.refused.result c.in-Other.ensures c.refused.ensures

pub returns-in-Missing-clause-gives : goal.returns-in-Missing-clause-gives
returns-in-Missing-clause-gives g c =
    let world = visible g.B.BlockStore.blocks c.args.keyspace.now c.args.at.now in
    told_none world c.args.key.now (insert_beside world c.args.key.now c.args.side c.args.pivot.now c.args.element.now) c.count_reply.result c.in-Missing.ensures c.count_reply.ensures refl

pub returns-in-None-clause-gives : goal.returns-in-None-clause-gives
returns-in-None-clause-gives g c =
    let list = c.in-There.ensures.list in
    let has = c.in-There.ensures.has in
    none_told (visible g.B.BlockStore.blocks c.args.keyspace.now c.args.at.now) c.args.key.now c.args.side c.args.pivot.now c.args.element.now list has
    (c.in-None.ensures list has c.args.element.now) c.number.result c.number.ensures

pub change_list-requires-clause-takes : goal.change_list-requires-clause-takes
change_list-requires-clause-takes g c before stands =
    let list = c.in-There.ensures.list in
    let has = c.in-There.ensures.has in
    inside_before (visible g.B.BlockStore.blocks c.args.keyspace.now c.args.at.now) c.args.key.now list c.in-Some.index (length list) has refl (c.in-Some.ensures list has).0 before stands

pub returns-clause-gives : goal.returns-clause-gives
returns-clause-gives g c =
    let blocks = g.B.BlockStore.blocks in
    let world = visible blocks c.args.keyspace.now c.args.at.now in
    let key = c.args.key.now in
    let list = c.in-There.ensures.list in
    let has = c.in-There.ensures.has in
    let p = c.in_ok-insert.ensures.changed in
    let was : or_none p.before ≡ list = ap or_none (before_is world key p.before list p.stands has) in
    let now : p.now ≡ insert list c.in-Some.index c.args.element.now = p.made.is ∙ ap (λ (l : Elements). insert l c.in-Some.index c.args.element.now) was in
    beside_told world (visible blocks c.change_list.new.keyspace c.args.at.now) key c.args.side c.args.pivot.now c.args.element.now list p.now _ has
    ((c.in-Some.ensures list has).1 c.args.element.now ∙ ap Some (sym now)) p.made.counted p.world c.count_reply-2.result c.count_reply-2.ensures

pub returns-clause-kept : goal.returns-clause-kept
returns-clause-kept g c = number_calm g.B.BlockStore.blocks g.B.BlockStore.step (one_key c.args.at.now.db c.args.key.now) c.args.keyspace.now c.change_list.new.keyspace _
    c.count_reply-2.result c.count_reply-2.ensures c.change_list.ensures.held

pub returns-in-Other-clause-forms : goal.returns-in-Other-clause-forms
returns-in-Other-clause-forms g c = if_ok c.refused.result (formed_none g.B.BlockStore.blocks _ c.args.keyspace.now)

pub returns-in-Missing-clause-forms : goal.returns-in-Missing-clause-forms
returns-in-Missing-clause-forms g c = if_ok c.count_reply.result (formed_none g.B.BlockStore.blocks _ c.args.keyspace.now)

pub returns-in-None-clause-forms : goal.returns-in-None-clause-forms
returns-in-None-clause-forms g c = if_ok c.number.result (formed_none g.B.BlockStore.blocks _ c.args.keyspace.now)
