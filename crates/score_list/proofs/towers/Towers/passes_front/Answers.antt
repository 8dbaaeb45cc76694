use Rattle.std.proofs.Common.{◌<◌, get_or, sym, ap, ◌∙◌, subst, arith}
use Rattle.score_list.specs.Linked.{no_place}
use Rattle.score_list.proofs.Between.{before_is, before_passes, element_before, each_in_front}
use Rattle.score_list.proofs.towers.Towers.passes_front.Goals as goal

pub overflow_sub-before : goal.overflow_sub-before
overflow_sub-before g c =
    let place = get_or c.args.path.now 0 no_place in
    let is = before_is c.args.self.now c.args.rank place.owner place.rank c.requires.linked c.requires.rank (omega (arith, c.if-rank-eq0.false)) (c.requires.path 0 (omega arith)) in
    omega (arith, is)

pub is_above-requires : goal.is_above-requires
is_above-requires g c =
    let t = c.args.self.now in
    let place = get_or c.args.path.now 0 no_place in
    let some : 0 < c.args.rank = omega (arith, c.if-rank-eq0.false) in
    let is = before_is t c.args.rank place.owner place.rank c.requires.linked c.requires.rank some (c.requires.path 0 (omega arith)) in
    subst (g.P.Probe.compares c.args.probe.now) (sym (c.element.ensures ∙ element_before t c.args.rank place.owner c.requires.rank some is))
    (each_in_front t c.args.rank (g.P.Probe.compares c.args.probe.now) c.requires.rank some c.requires.compares)

pub returns : goal.returns
returns g c = λ above.
    (let t = c.args.self.now in
    let place = get_or c.args.path.now 0 no_place in
    let some : 0 < c.args.rank = omega (arith, c.if-rank-eq0.false) in
    let is = before_is t c.args.rank place.owner place.rank c.requires.linked c.requires.rank some (c.requires.path 0 (omega arith)) in
    before_passes t c.args.rank (g.P.Probe.above c.args.probe.now) c.requires.rank some c.requires.parted
    (ap (g.P.Probe.above c.args.probe.now) (sym (c.element.ensures ∙ element_before t c.args.rank place.owner c.requires.rank some is)) ∙ sym c.is_above.ensures ∙ above))
