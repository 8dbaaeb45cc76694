use Rattle.std.proofs.Common.{◌<◌, length, sym, subst}
use Rattle.score_list.specs.Linked.{items}
use Rattle.score_list.specs.Sorted.{IsRising, IsSorted, Carries}
use Rattle.score_list.proofs.Renaming.{rising_renamed, sorted_renamed}
use Rattle.score_list.proofs.scores.Scores.swap_ref.Goals as goal

pub invariant_of-self : goal.invariant_of-self
invariant_of-self c = (c.set_member.ensures.linked, subst IsRising (sym c.set_member.ensures.items) (rising_renamed (items c.self.inside.towers) c.args.rank c.args.new c.self.invariant.1))

pub returns-clause-sorted : goal.returns-clause-sorted
returns-clause-sorted c = λ before after s carries. subst (IsSorted after) (sym c.set_member.ensures.items)
    (sorted_renamed before after (items c.self.inside.towers) c.args.rank c.args.new (subst (λ xs. c.args.rank < length xs) (sym c.self.view_is) c.requires)
    (subst (λ xs. Carries before after xs c.args.rank c.args.new) (sym c.self.view_is) carries) (subst (IsSorted before) (sym c.self.view_is) s))
