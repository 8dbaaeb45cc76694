use Rattle.std.proofs.Common.{◌<◌, length, get_or, sym, ap, ◌∙◌, arith, w64}
use Rattle.std.proofs.lemmas.Int.{to_z-of_z}
use Rattle.score_list.specs.Linked.{no_element, order, items, element_at, with_at, without_at}
use Rattle.score_list.proofs.Searching.{length_of_map}
use Rattle.score_list.proofs.Between.{count_front, put_back}
use Rattle.score_list.proofs.towers.Towers.rescore.Goals as goal

pub returns-then-stops_behind-clause-items : goal.returns-then-stops_behind-clause-items
returns-then-stops_behind-clause-items g c =
    let xs = items c.args.self.now in
    let within : c.args.rank < length xs = omega (arith, c.requires.rank, length_of_map (element_at c.args.self.now) (order c.args.self.now)) in
    rw (to_z-of_z w64 c.args.score c.ranges.score) at c.set_score.ensures.items
    ∙ sym (ap (λ n. with_at (without_at xs c.args.rank) n (c.args.score, (get_or xs c.args.rank no_element).1))
    (count_front (g.P.Probe.above c.args.probe.now) xs c.args.rank within (c.passes_front.ensures c.if-passes_front.true) (c.stops_behind.ensures c.if-stops_behind.true))
    ∙ put_back xs c.args.rank (c.args.score, (get_or xs c.args.rank no_element).1) within)
