use Rattle.std.proofs.Common.{length, sym, ap, subst, arith}
use Rattle.score_list.specs.Linked.{element_at, order, items}
use Rattle.score_list.specs.Sorted.{IsRising}
use Rattle.score_list.proofs.Searching.{length_of_map}
use Rattle.score_list.proofs.Ranges.{rising_without}
use Rattle.score_list.proofs.scores.Scores.remove_range.Goals as goal

pub remove_range-requires-clause-inside : goal.remove_range-requires-clause-inside
remove_range-requires-clause-inside c =
    let t = c.self.inside.towers in
    omega (arith, c.requires.inside, ap length c.self.view_is, length_of_map (element_at t) (order t))

pub invariant_of-self : goal.invariant_of-self
invariant_of-self c = (
  c.remove_range.ensures.linked,
  subst IsRising (sym c.remove_range.ensures.items) (rising_without c.args.from c.args.to (items c.self.inside.towers) c.requires.order c.self.invariant.1),
)
