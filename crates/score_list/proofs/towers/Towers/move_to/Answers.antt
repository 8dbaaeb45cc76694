use Rattle.std.proofs.Common.{ℤ, count_by, sym, ap, ◌∙◌, subst, arith, w64}
use Rattle.std.specs.Prelude.{slice_index_or}
use Rattle.std.proofs.lemmas.Int.{to_z-of_z}
use Rattle.std.proofs.lemmas.List.Sums.{count_by-le-length}
use Rattle.score_list.specs.Linked.{no_element, order, items, element_at, with_at, without_at, Adds}
use Rattle.score_list.specs.Sorted.{IsParted, EachIs}
use Rattle.score_list.proofs.Joins.{linked_is, joined_as, joined_items}
use Rattle.score_list.proofs.Searching.{length_of_map}
use Rattle.score_list.proofs.towers.Towers.move_to.Goals as goal

pub find-to-requires-clause-parted : goal.find-to-requires-clause-parted
find-to-requires-clause-parted g c = subst (IsParted (g.P.Probe.above c.args.probe.now)) (sym c.take_off.ensures.items) c.requires.parted

pub find-to-requires-clause-compares : goal.find-to-requires-clause-compares
find-to-requires-clause-compares g c = subst (EachIs (g.P.Probe.compares c.args.probe.now)) (sym c.take_off.ensures.items) c.requires.compares

pub thread-requires-clause-rank : goal.thread-requires-clause-rank
thread-requires-clause-rank g c =
    let t = c.take_off.new.self in
    omega (arith, c.find-to.ensures.rank, count_by-le-length (g.P.Probe.above c.args.probe.now) (items t), length_of_map (element_at t) (order t))

pub returns-clause-linked : goal.returns-clause-linked
returns-clause-linked g c =
    let t = c.take_off.new.self in
    linked_is _ (with_at (order t) c.find-to.result.0 c.args.key)
    (joined_as t t c.thread.new.self c.args.key c.find-to.result.0 _ c.take_off.ensures.linked c.take_off.ensures.beside c.thread.ensures c.take_off.ensures.shorter)

pub returns-clause-items : goal.returns-clause-items
returns-clause-items g c =
    let t = c.take_off.new.self in
    let member = (slice_index_or (items c.args.self.now) c.args.rank no_element).1 in
    let rest = without_at (items c.args.self.now) c.args.rank in
    let beside = subst (λ (n : ℤ). Adds t t c.args.key (n, member)) (to_z-of_z w64 c.args.score c.ranges.score) c.take_off.ensures.beside in
    joined_items t t c.thread.new.self c.args.key c.find-to.result.0 (c.args.score, member) c.take_off.ensures.linked beside c.thread.ensures c.take_off.ensures.shorter
    ∙ ap (λ n. with_at (items t) n (c.args.score, member)) (c.find-to.ensures.rank ∙ ap (count_by (g.P.Probe.above c.args.probe.now)) c.take_off.ensures.items)
    ∙ ap (λ l. with_at l (count_by (g.P.Probe.above c.args.probe.now) rest) (c.args.score, member)) c.take_off.ensures.items
