use Rattle.std.proofs.Common.{suc, count_by, sym, ap, ◌∙◌, subst, arith, w64}
use Rattle.std.proofs.lemmas.Int.{to_z-of_z}
use Rattle.std.proofs.lemmas.List.Sums.{count_by-le-length}
use Rattle.score_list.specs.Rows.{Lacks}
use Rattle.score_list.specs.Linked.{order, items, element_at, with_at, Adds}
use Rattle.score_list.specs.Sorted.{IsParted, EachIs}
use Rattle.score_list.proofs.Joins.{ordered_as, linked_is, joined_as, joined_items}
use Rattle.score_list.proofs.Searching.{length_of_map}
use Rattle.score_list.proofs.towers.Towers.insert.Goals as goal

pub find-rank-requires-clause-parted : goal.find-rank-requires-clause-parted
find-rank-requires-clause-parted g c = subst (IsParted (g.P.Probe.above c.args.probe.now)) (sym c.add.ensures.kept) c.requires.parted

pub find-rank-requires-clause-compares : goal.find-rank-requires-clause-compares
find-rank-requires-clause-compares g c = subst (EachIs (g.P.Probe.compares c.args.probe.now)) (sym c.add.ensures.kept) c.requires.compares

pub thread-requires-clause-rank : goal.thread-requires-clause-rank
thread-requires-clause-rank g c =
    let t = c.add.new.self in
    omega (arith, c.find-rank.ensures.rank, count_by-le-length (g.P.Probe.above c.args.probe.now) (items t), length_of_map (element_at t) (order t))

pub thread-requires-clause-fresh : goal.thread-requires-clause-fresh
thread-requires-clause-fresh g c =
    let a = c.in-Ok.ensures.adds in
    subst (Lacks (suc c.in-Ok.key)) (sym (ordered_as c.add.new.self (order c.args.self.now) a.linked)) a.fresh

pub returns-in-Ok-clause-linked : goal.returns-in-Ok-clause-linked
returns-in-Ok-clause-linked g c =
    linked_is _ (with_at (order c.args.self.now) c.find-rank.result.0 c.in-Ok.key)
    (joined_as c.args.self.now c.add.new.self c.thread.new.self c.in-Ok.key c.find-rank.result.0 (c.args.score, c.args.member) c.requires.linked
    (subst (λ n. Adds c.args.self.now c.add.new.self c.in-Ok.key (n, c.args.member)) (to_z-of_z w64 c.args.score c.ranges.score) c.in-Ok.ensures.adds) c.thread.ensures
    (omega (arith, c.if-self-ge-MOST.false)))

pub returns-in-Ok-clause-ok : goal.returns-in-Ok-clause-ok
returns-in-Ok-clause-ok g c =
    joined_items c.args.self.now c.add.new.self c.thread.new.self c.in-Ok.key c.find-rank.result.0 (c.args.score, c.args.member) c.requires.linked
    (subst (λ n. Adds c.args.self.now c.add.new.self c.in-Ok.key (n, c.args.member)) (to_z-of_z w64 c.args.score c.ranges.score) c.in-Ok.ensures.adds) c.thread.ensures
    (omega (arith, c.if-self-ge-MOST.false))
    ∙ ap (λ n. with_at (items c.args.self.now) n (c.args.score, c.args.member)) (c.find-rank.ensures.rank ∙ ap (count_by (g.P.Probe.above c.args.probe.now)) c.add.ensures.kept)
