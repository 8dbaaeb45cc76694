use Rattle.std.proofs.Common.{IfOk, ap, subst, ◌∙◌}
use Rattle.blocks.specs.Plain.{plain_blocks}
use Rattle.set_object.specs.Members.{listed}
use Rattle.set_object.proofs.Listed.{arranged}
use Rattle.plain_model.specs.SetSteps.{Members, add_all}
use Rattle.cmd_sets.specs.Joined.{Sifts}
use Rattle.cmd_sets.proofs.Put.{filled}
use Rattle.cmd_sets.proofs.sifting.ask_hashed.Goals as goal

pub add_members-requires-clause-all : goal.add_members-requires-clause-all
add_members-requires-clause-all g c = c.new-all.ensures.sound _

pub returns : goal.returns
returns g c =
    let m = g.B.BlockStore.blocks c.args.store.now in
    let list = listed m c.args.set.now in
    subst (λ (s : Members). IfOk c.ask_each.result (λ kept. Sifts c.args.there s c.args.names.items kept.items))
    (c.in_ok-add_members.ensures.members ∙ ap (λ (s : Members). add_all s list) (c.new-all.ensures.empty (plain_blocks c.new-own.result)) ∙ filled list
    ∙ (arranged m c.args.set.now c.requires.sound).listed_are)
    c.ask_each.ensures
