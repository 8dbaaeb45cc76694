use Rattle.std.proofs.Common.{rules, ◌≡◌, ◌-◌, ◌<◌, ◌≤◌, inl, inr, nat_lt, ltb-true, ltb-false, length, get_or, count_by, sym, subst, ap, ◌∙◌, arith}
use Rattle.std.proofs.lemmas.List.Sums.{count_by-le-length}
use Rattle.score_list.specs.Linked.{order, items, element_at, next_at, IsPath}
use Rattle.score_list.proofs.Moved.{decide}
use Rattle.score_list.proofs.Searching.{descent_begins, stands_lower, descends, descended, lowest_next, lowest_end, lowest_rank, length_of_map, way_on, way_path}
use Rattle.score_list.proofs.towers.Towers.find.Goals as goal

pub loop-level-init : goal.loop-level-init
loop-level-init g c = record {
  descent = descent_begins c.args.self.now (count_by (g.P.Probe.above c.args.probe.now) (items c.args.self.now))
      (omega (arith, count_by-le-length (g.P.Probe.above c.args.probe.now) (items c.args.self.now), length_of_map (element_at c.args.self.now) (order c.args.self.now)));
  way = record { long = search rules; came = λ j le lt. absurd (omega arith) };
}

pub pass-place-requires-clause-stands : goal.pass-place-requires-clause-stands
pass-place-requires-clause-stands g c = stands_lower c.args.self.now (count_by (g.P.Probe.above c.args.probe.now) (items c.args.self.now)) c.loop-level.level c.loop-level.place.owner
    c.loop-level.place.rank c.loop-level-test.true c.loop-level.invariant.descent.stands

pub loop-level-preserved : goal.loop-level-preserved
loop-level-preserved g c =
    let rank = count_by (g.P.Probe.above c.args.probe.now) (items c.args.self.now) in
    let low : c.loop-level.level - 1 < 16 = omega (arith, c.loop-level.invariant.descent.bound, c.loop-level-test.true) in
    record {
      descent = descends c.args.self.now rank (c.loop-level.level - 1) c.pass-place.result.owner c.pass-place.result.rank low c.pass-place.ensures;
      way = way_on c.args.self.now rank c.loop-level.level c.loop-level.path c.pass-place.result c.loop-level-test.true low c.pass-place.ensures c.loop-level.invariant.way;
    }

pub returns-then-next-eq0-clause-rank : goal.returns-then-next-eq0-clause-rank
returns-then-next-eq0-clause-rank g c = lowest_rank c.args.self.now c.requires.linked (count_by (g.P.Probe.above c.args.probe.now) (items c.args.self.now)) c.loop-level.place.owner
    c.loop-level.place.rank
    (descended c.args.self.now (count_by (g.P.Probe.above c.args.probe.now) (items c.args.self.now)) c.loop-level.level c.loop-level.place.owner c.loop-level.place.rank
    c.loop-level.invariant.descent c.loop-level-test.false)

pub returns-then-next-eq0-clause-tower : goal.returns-then-next-eq0-clause-tower
returns-then-next-eq0-clause-tower g c =
    let to : c.link-next.result.next ≡ next_at c.args.self.now 0 c.loop-level.place.owner = ap (λ l. l.next) c.link-next.ensures in
    let many : (count_by (g.P.Probe.above c.args.probe.now) (items c.args.self.now)) ≤ length (order c.args.self.now) =
    omega (arith, count_by-le-length (g.P.Probe.above c.args.probe.now) (items c.args.self.now), length_of_map (element_at c.args.self.now) (order c.args.self.now)) in
    let is = lowest_rank c.args.self.now c.requires.linked (count_by (g.P.Probe.above c.args.probe.now) (items c.args.self.now)) c.loop-level.place.owner c.loop-level.place.rank
    (descended c.args.self.now (count_by (g.P.Probe.above c.args.probe.now) (items c.args.self.now)) c.loop-level.level c.loop-level.place.owner c.loop-level.place.rank
    c.loop-level.invariant.descent c.loop-level-test.false) in
    elim (decide (nat_lt (count_by (g.P.Probe.above c.args.probe.now) (items c.args.self.now)) (length (order c.args.self.now)))) [
      | inl e ↦ absurd
          (let lt : (count_by (g.P.Probe.above c.args.probe.now) (items c.args.self.now)) < length (order c.args.self.now) =
          ltb-true (count_by (g.P.Probe.above c.args.probe.now) (items c.args.self.now)) (length (order c.args.self.now)) e in
          omega (
            arith,
            to,
            c.if-next-eq0.true,
            lowest_next c.args.self.now c.requires.linked (count_by (g.P.Probe.above c.args.probe.now) (items c.args.self.now)) c.loop-level.place.owner
                c.loop-level.place.rank
                (descended c.args.self.now (count_by (g.P.Probe.above c.args.probe.now) (items c.args.self.now)) c.loop-level.level c.loop-level.place.owner c.loop-level.place.rank
                c.loop-level.invariant.descent c.loop-level-test.false) lt,
          ))
      | inr e ↦
          (let le : length (order c.args.self.now) ≤ (count_by (g.P.Probe.above c.args.probe.now) (items c.args.self.now)) =
          ltb-false (count_by (g.P.Probe.above c.args.probe.now) (items c.args.self.now)) (length (order c.args.self.now)) e in omega (arith, is, many, le))
    ]

pub returns-else-next-eq0-clause-rank : goal.returns-else-next-eq0-clause-rank
returns-else-next-eq0-clause-rank g c = lowest_rank c.args.self.now c.requires.linked (count_by (g.P.Probe.above c.args.probe.now) (items c.args.self.now)) c.loop-level.place.owner
    c.loop-level.place.rank
    (descended c.args.self.now (count_by (g.P.Probe.above c.args.probe.now) (items c.args.self.now)) c.loop-level.level c.loop-level.place.owner c.loop-level.place.rank
    c.loop-level.invariant.descent c.loop-level-test.false)

pub returns-else-next-eq0-clause-tower : goal.returns-else-next-eq0-clause-tower
returns-else-next-eq0-clause-tower g c =
    let to : c.link-next.result.next ≡ next_at c.args.self.now 0 c.loop-level.place.owner = ap (λ l. l.next) c.link-next.ensures in
    let many : (count_by (g.P.Probe.above c.args.probe.now) (items c.args.self.now)) ≤ length (order c.args.self.now) =
    omega (arith, count_by-le-length (g.P.Probe.above c.args.probe.now) (items c.args.self.now), length_of_map (element_at c.args.self.now) (order c.args.self.now)) in
    let is = lowest_rank c.args.self.now c.requires.linked (count_by (g.P.Probe.above c.args.probe.now) (items c.args.self.now)) c.loop-level.place.owner c.loop-level.place.rank
    (descended c.args.self.now (count_by (g.P.Probe.above c.args.probe.now) (items c.args.self.now)) c.loop-level.level c.loop-level.place.owner c.loop-level.place.rank
    c.loop-level.invariant.descent c.loop-level-test.false) in
    elim (decide (nat_lt (count_by (g.P.Probe.above c.args.probe.now) (items c.args.self.now)) (length (order c.args.self.now)))) [
      | inl e ↦
          (let lt : (count_by (g.P.Probe.above c.args.probe.now) (items c.args.self.now)) < length (order c.args.self.now) =
          ltb-true (count_by (g.P.Probe.above c.args.probe.now) (items c.args.self.now)) (length (order c.args.self.now)) e in
          let n = lowest_next c.args.self.now c.requires.linked (count_by (g.P.Probe.above c.args.probe.now) (items c.args.self.now)) c.loop-level.place.owner c.loop-level.place.rank
          (descended c.args.self.now (count_by (g.P.Probe.above c.args.probe.now) (items c.args.self.now)) c.loop-level.level c.loop-level.place.owner c.loop-level.place.rank
          c.loop-level.invariant.descent c.loop-level-test.false) lt in
          (omega (arith, is, lt), ap (λ n. get_or (order c.args.self.now) n 0) is ∙ omega (arith, to, n)))
      | inr e ↦ absurd
          (let le : length (order c.args.self.now) ≤ (count_by (g.P.Probe.above c.args.probe.now) (items c.args.self.now)) =
          ltb-false (count_by (g.P.Probe.above c.args.probe.now) (items c.args.self.now)) (length (order c.args.self.now)) e in
          omega (
            arith,
            to,
            c.if-next-eq0.false,
            lowest_end c.args.self.now c.requires.linked (count_by (g.P.Probe.above c.args.probe.now) (items c.args.self.now)) c.loop-level.place.owner
                c.loop-level.place.rank
                (descended c.args.self.now (count_by (g.P.Probe.above c.args.probe.now) (items c.args.self.now)) c.loop-level.level c.loop-level.place.owner c.loop-level.place.rank
                c.loop-level.invariant.descent c.loop-level-test.false) (omega (arith, many, le)),
          ))
    ]

pub returns-then-next-eq0-clause-path : goal.returns-then-next-eq0-clause-path
returns-then-next-eq0-clause-path g c =
    let rank = count_by (g.P.Probe.above c.args.probe.now) (items c.args.self.now) in
    let is = lowest_rank c.args.self.now c.requires.linked rank c.loop-level.place.owner c.loop-level.place.rank
    (descended c.args.self.now rank c.loop-level.level c.loop-level.place.owner c.loop-level.place.rank c.loop-level.invariant.descent c.loop-level-test.false) in
    subst (λ n. IsPath c.args.self.now n c.loop-level.path) (sym is) (way_path c.args.self.now rank c.loop-level.level c.loop-level.path c.loop-level-test.false c.loop-level.invariant.way)

pub returns-else-next-eq0-clause-path : goal.returns-else-next-eq0-clause-path
returns-else-next-eq0-clause-path g c =
    let rank = count_by (g.P.Probe.above c.args.probe.now) (items c.args.self.now) in
    let is = lowest_rank c.args.self.now c.requires.linked rank c.loop-level.place.owner c.loop-level.place.rank
    (descended c.args.self.now rank c.loop-level.level c.loop-level.place.owner c.loop-level.place.rank c.loop-level.invariant.descent c.loop-level-test.false) in
    subst (λ n. IsPath c.args.self.now n c.loop-level.path) (sym is) (way_path c.args.self.now rank c.loop-level.level c.loop-level.path c.loop-level-test.false c.loop-level.invariant.way)

pub returns-then-next-eq0-clause-long : goal.returns-then-next-eq0-clause-long
returns-then-next-eq0-clause-long g c = c.loop-level.invariant.way.long

pub returns-else-next-eq0-clause-long : goal.returns-else-next-eq0-clause-long
returns-else-next-eq0-clause-long g c = c.loop-level.invariant.way.long
