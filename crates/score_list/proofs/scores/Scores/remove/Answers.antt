use Rattle.std.proofs.Common.{sym, subst, w64}
use Rattle.std.proofs.lemmas.Int.{to_z-of_z}
use Rattle.score_list.specs.Linked.{items}
use Rattle.score_list.specs.Sorted.{IsSorted, Located}
use Rattle.score_list.proofs.Sortings.{sorted_rising, sorted_without, removed_is}
use Rattle.score_list.proofs.scores.Scores.remove.Goals as goal

pub invariant_of-self : goal.invariant_of-self
invariant_of-self g c = (
  c.remove_at.ensures.linked,
  sorted_rising (g.B.BlockStore.blocks c.args.store.now) (items c.remove_at.new.self)
      (subst (IsSorted (g.B.BlockStore.blocks c.args.store.now)) (sym c.remove_at.ensures.items)
      (sorted_without (g.B.BlockStore.blocks c.args.store.now) c.in-Some.rank (items c.self.inside.towers)
      (subst (IsSorted (g.B.BlockStore.blocks c.args.store.now)) (sym c.self.view_is) c.requires))),
)

pub returns-in-Some-clause-removes : goal.returns-in-Some-clause-removes
returns-in-Some-clause-removes g c = removed_is (g.B.BlockStore.blocks c.args.store.now) (c.args.score, c.args.member.now) c.self.inside.towers c.args.self.now (items c.remove_at.new.self)
    c.in-Some.rank c.in-Some.key
    (subst (λ n. Located (g.B.BlockStore.blocks c.args.store.now) (n, c.args.member.now) c.self.inside.towers c.in-Some.rank c.in-Some.key) (to_z-of_z w64 c.args.score c.ranges.score)
    c.in-Some.ensures.found) c.self.view_is c.remove_at.ensures.items

pub returns-in-Some-clause-sorted : goal.returns-in-Some-clause-sorted
returns-in-Some-clause-sorted g c =
    (subst (IsSorted (g.B.BlockStore.blocks c.args.store.now)) (sym c.remove_at.ensures.items)
    (sorted_without (g.B.BlockStore.blocks c.args.store.now) c.in-Some.rank (items c.self.inside.towers)
    (subst (IsSorted (g.B.BlockStore.blocks c.args.store.now)) (sym c.self.view_is) c.requires)))
