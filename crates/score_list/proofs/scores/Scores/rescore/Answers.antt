use Rattle.std.proofs.Common.{ℤ, sym, subst, to_z, of_z, w64}
use Rattle.std.proofs.lemmas.Int.{to_z-of_z}
use Rattle.score_list.specs.Linked.{items, without_at}
use Rattle.score_list.specs.Sorted.{IsSorted, Misses, Located}
use Rattle.score_list.proofs.Sortings.{sorted_parted, all_live, sorted_rising, sorted_without, sorted_moved, rescored_is}
use Rattle.score_list.proofs.scores.Scores.rescore.Goals as goal

pub rescore-requires-clause-parted : goal.rescore-requires-clause-parted
rescore-requires-clause-parted g c =
    let m = g.B.BlockStore.blocks c.args.store.now in
    let xs = items c.self.inside.towers in
    sorted_parted m (to_z w64 (of_z w64 c.args.new), c.args.member.now) (without_at xs c.in-Some.rank) (sorted_without m c.in-Some.rank xs (subst (IsSorted m) (sym c.self.view_is) c.requires.sorted))

pub rescore-requires-clause-compares : goal.rescore-requires-clause-compares
rescore-requires-clause-compares g c =
    let m = g.B.BlockStore.blocks c.args.store.now in
    let xs = items c.self.inside.towers in
    all_live m (without_at xs c.in-Some.rank) (sorted_without m c.in-Some.rank xs (subst (IsSorted m) (sym c.self.view_is) c.requires.sorted))

pub invariant_of-self : goal.invariant_of-self
invariant_of-self g c =
    let m = g.B.BlockStore.blocks c.args.store.now in
    let xs = items c.self.inside.towers in
    let located = subst (λ (n : ℤ). Located m (n, c.args.member.now) c.self.inside.towers c.in-Some.rank c.in-Some.key) (to_z-of_z w64 c.args.old c.ranges.old) c.in-Some.ensures.found in
    let is = rw (to_z-of_z w64 c.args.new c.ranges.new) at c.rescore.ensures.items in (
      c.rescore.ensures.linked,
      sorted_rising m (items c.rescore.new.self)
          (subst (IsSorted m) (sym is)
          (sorted_moved m c.args.member.now c.args.old c.args.new xs c.in-Some.rank (subst (IsSorted m) (sym c.self.view_is) c.requires.sorted) located.has
          (subst (Misses m (c.args.new, c.args.member.now)) (sym c.self.view_is) c.requires.fresh))),
    )

pub returns-in-Some-clause-rescores : goal.returns-in-Some-clause-rescores
returns-in-Some-clause-rescores g c =
    let m = g.B.BlockStore.blocks c.args.store.now in
    let located = subst (λ (n : ℤ). Located m (n, c.args.member.now) c.self.inside.towers c.in-Some.rank c.in-Some.key) (to_z-of_z w64 c.args.old c.ranges.old) c.in-Some.ensures.found in
    let is = rw (to_z-of_z w64 c.args.new c.ranges.new) at c.rescore.ensures.items in
    rescored_is m c.args.member.now c.args.old c.args.new c.self.inside.towers c.args.self.now (items c.rescore.new.self) c.in-Some.rank c.in-Some.key located c.self.view_is is

pub returns-in-Some-clause-sorted : goal.returns-in-Some-clause-sorted
returns-in-Some-clause-sorted g c =
    let m = g.B.BlockStore.blocks c.args.store.now in
    let xs = items c.self.inside.towers in
    let located = subst (λ (n : ℤ). Located m (n, c.args.member.now) c.self.inside.towers c.in-Some.rank c.in-Some.key) (to_z-of_z w64 c.args.old c.ranges.old) c.in-Some.ensures.found in
    let is = rw (to_z-of_z w64 c.args.new c.ranges.new) at c.rescore.ensures.items in
    subst (IsSorted m) (sym is)
    (sorted_moved m c.args.member.now c.args.old c.args.new xs c.in-Some.rank (subst (IsSorted m) (sym c.self.view_is) c.requires.sorted) located.has
    (subst (Misses m (c.args.new, c.args.member.now)) (sym c.self.view_is) c.requires.fresh))
