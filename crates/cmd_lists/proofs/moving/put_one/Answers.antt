use Rattle.std.proofs.Common.{ℕ, List, ◌∷◌, [], ap, sym, ◌∙◌, arith}
use Rattle.plain_model.specs.ListSteps.{added}
use Rattle.keyspace.specs.Forms.{list_at}
use Rattle.keyspace.specs.Commands.{visible}
use Rattle.cmd_lists.proofs.Telling.{list_before, risen_there, risen_placed}
use Rattle.cmd_lists.proofs.moving.put_one.Goals as goal

pub returns-clause-forms : goal.returns-clause-forms
returns-clause-forms g c =
    let blocks = g.B.BlockStore.blocks in
    let world = visible blocks c.args.keyspace.now c.args.at.now in
    let p = c.in_ok-change_at.ensures.changed in
    risen_there _ blocks g.B.BlockStore.step c.args.keyspace.now c.change_at.new.keyspace c.args.at.now c.args.key.now p c.change_at.ensures.held
    (added c.args.end (list_at world c.args.key.now) (c.args.element.now ∷ []))
    (p.made.is ∙ ap (λ l. added c.args.end l (c.new.result ∷ [])) (sym (list_before world c.args.key.now p.before p.stands))
    ∙ ap (λ (w : List ℕ). added c.args.end (list_at world c.args.key.now) (w ∷ [])) (c.new.ensures ∙ c.as_slice.ensures)) (p.made.risen (omega arith))

pub returns-clause-placed : goal.returns-clause-placed
returns-clause-placed g c =
    let blocks = g.B.BlockStore.blocks in
    let world = visible blocks c.args.keyspace.now c.args.at.now in
    let p = c.in_ok-change_at.ensures.changed in
    risen_placed _ blocks g.B.BlockStore.step c.args.keyspace.now c.change_at.new.keyspace c.args.at.now c.args.key.now p c.change_at.ensures.held
    (added c.args.end (list_at world c.args.key.now) (c.args.element.now ∷ []))
    (p.made.is ∙ ap (λ l. added c.args.end l (c.new.result ∷ [])) (sym (list_before world c.args.key.now p.before p.stands))
    ∙ ap (λ (w : List ℕ). added c.args.end (list_at world c.args.key.now) (w ∷ [])) (c.new.ensures ∙ c.as_slice.ensures)) (p.made.risen (omega arith))
