use Rattle.std.proofs.Common.{◌≡◌, ◌-◌, ◌≤◌, suc, true, length, take, count_by, sym, ap, ◌∙◌, subst, arith}
use Rattle.std.proofs.lemmas.List.Sums.{count_by-le-length}
use Rattle.score_list.specs.Rows.{Stands}
use Rattle.score_list.specs.Linked.{order, items, element_at, tall, next_at, span_at, score_at, score_of}
use Rattle.score_list.proofs.Holding.{next_held}
use Rattle.score_list.proofs.Places.{on, arrived, some_span}
use Rattle.score_list.proofs.Searching.{passes_before, fails_at_last, keys_front, keys_back, each_next, length_of_map}
use Rattle.score_list.proofs.towers.Towers.pass.Goals as goal

pub returns-then-link-eq0 : goal.returns-then-link-eq0
returns-then-link-eq0 g c =
    let i = c.loop-link.invariant in
    let to : c.link-link.result.next ≡ next_at c.args.self.now c.args.level c.loop-link.place.owner = ap (λ l. l.next) c.link-link.ensures in
    let over : c.link-link.result.span ≡ span_at c.args.self.now c.args.level c.loop-link.place.owner = ap (λ l. l.span) c.link-link.ensures in
    arrived (tall c.args.self.now c.args.level) (next_at c.args.self.now c.args.level) (span_at c.args.self.now c.args.level) (order c.args.self.now)
    (count_by (g.P.Probe.above c.args.probe.now) (items c.args.self.now)) c.loop-link.place.owner c.loop-link.place.rank i.0 i.1 i.2
    (c.requires.linked.rows c.args.level c.requires.level)
    (fails_at_last (g.P.Probe.above c.args.probe.now) (element_at c.args.self.now) (tall c.args.self.now c.args.level) (next_at c.args.self.now c.args.level)
    (span_at c.args.self.now c.args.level) (order c.args.self.now) (count_by (g.P.Probe.above c.args.probe.now) (items c.args.self.now)) c.loop-link.place.owner c.loop-link.place.rank
    i.0 (keys_front (g.P.Probe.above c.args.probe.now) (element_at c.args.self.now) (order c.args.self.now) c.requires.parted) i.1 i.2
    (c.requires.linked.rows c.args.level c.requires.level) (λ k e. absurd (omega (arith, to, c.if-link-eq0.true, e))))

pub passes-requires-clause-some : goal.passes-requires-clause-some
passes-requires-clause-some g c = omega (arith, c.if-link-eq0.false)

pub passes-requires-clause-score : goal.passes-requires-clause-score
passes-requires-clause-score g c =
    let i = c.loop-link.invariant in
    let to : c.link-link.result.next ≡ next_at c.args.self.now c.args.level c.loop-link.place.owner = ap (λ l. l.next) c.link-link.ensures in
    let held : c.link-link.result.score ≡ score_at c.args.self.now c.args.level c.loop-link.place.owner = ap (λ l. l.score) c.link-link.ensures in
    let one : next_at c.args.self.now c.args.level c.loop-link.place.owner ≡ suc (c.link-link.result.next - 1) = omega (arith, to, c.if-link-eq0.false) in
    held ∙ next_held (tall c.args.self.now c.args.level) (score_at c.args.self.now c.args.level) (score_of c.args.self.now) (next_at c.args.self.now c.args.level)
    (span_at c.args.self.now c.args.level) (order c.args.self.now) (count_by (g.P.Probe.above c.args.probe.now) (items c.args.self.now)) c.loop-link.place.owner i.0 i.1
    (c.requires.linked.rows c.args.level c.requires.level) (c.requires.linked.scored c.args.level c.requires.level) (c.link-link.result.next - 1) one

pub passes-requires-clause-compares : goal.passes-requires-clause-compares
passes-requires-clause-compares g c =
    let i = c.loop-link.invariant in
    let to : c.link-link.result.next ≡ next_at c.args.self.now c.args.level c.loop-link.place.owner = ap (λ l. l.next) c.link-link.ensures in
    let one : next_at c.args.self.now c.args.level c.loop-link.place.owner ≡ suc (c.link-link.result.next - 1) = omega (arith, to, c.if-link-eq0.false) in
    each_next (g.P.Probe.compares c.args.probe.now) (element_at c.args.self.now) (tall c.args.self.now c.args.level) (next_at c.args.self.now c.args.level)
    (span_at c.args.self.now c.args.level) (order c.args.self.now) (count_by (g.P.Probe.above c.args.probe.now) (items c.args.self.now)) c.loop-link.place.owner i.0 c.requires.compares
    i.1 (c.requires.linked.rows c.args.level c.requires.level) (c.link-link.result.next - 1) one

pub returns-then-not-passes : goal.returns-then-not-passes
returns-then-not-passes g c =
    let i = c.loop-link.invariant in
    let to : c.link-link.result.next ≡ next_at c.args.self.now c.args.level c.loop-link.place.owner = ap (λ l. l.next) c.link-link.ensures in
    let over : c.link-link.result.span ≡ span_at c.args.self.now c.args.level c.loop-link.place.owner = ap (λ l. l.span) c.link-link.ensures in
    arrived (tall c.args.self.now c.args.level) (next_at c.args.self.now c.args.level) (span_at c.args.self.now c.args.level) (order c.args.self.now)
    (count_by (g.P.Probe.above c.args.probe.now) (items c.args.self.now)) c.loop-link.place.owner c.loop-link.place.rank i.0 i.1 i.2
    (c.requires.linked.rows c.args.level c.requires.level)
    (fails_at_last (g.P.Probe.above c.args.probe.now) (element_at c.args.self.now) (tall c.args.self.now c.args.level) (next_at c.args.self.now c.args.level)
    (span_at c.args.self.now c.args.level) (order c.args.self.now) (count_by (g.P.Probe.above c.args.probe.now) (items c.args.self.now)) c.loop-link.place.owner c.loop-link.place.rank
    i.0 (keys_front (g.P.Probe.above c.args.probe.now) (element_at c.args.self.now) (order c.args.self.now) c.requires.parted) i.1 i.2
    (c.requires.linked.rows c.args.level c.requires.level)
    (λ k e. let same : c.link-link.result.next - 1 ≡ k = omega (arith, to, e) in ap (λ n. g.P.Probe.above c.args.probe.now (element_at c.args.self.now n)) (sym same)
    ∙ sym c.passes.ensures ∙ c.if-not-passes.true))

pub overflow_add-place : goal.overflow_add-place
overflow_add-place g c =
    let i = c.loop-link.invariant in
    let to : c.link-link.result.next ≡ next_at c.args.self.now c.args.level c.loop-link.place.owner = ap (λ l. l.next) c.link-link.ensures in
    let over : c.link-link.result.span ≡ span_at c.args.self.now c.args.level c.loop-link.place.owner = ap (λ l. l.span) c.link-link.ensures in
    let one : next_at c.args.self.now c.args.level c.loop-link.place.owner ≡ suc (c.link-link.result.next - 1) = omega (arith, to, c.if-link-eq0.false) in
    let above : g.P.Probe.above c.args.probe.now (element_at c.args.self.now (c.link-link.result.next - 1)) ≡ true = sym c.passes.ensures ∙ c.if-not-passes.false in
    let many : (count_by (g.P.Probe.above c.args.probe.now) (items c.args.self.now)) ≤ length (order c.args.self.now) =
    omega (arith, count_by-le-length (g.P.Probe.above c.args.probe.now) (items c.args.self.now), length_of_map (element_at c.args.self.now) (order c.args.self.now)) in
    omega (
      arith,
      over,
      many,
      (passes_before (g.P.Probe.above c.args.probe.now) (element_at c.args.self.now) (tall c.args.self.now c.args.level) (next_at c.args.self.now c.args.level)
          (span_at c.args.self.now c.args.level) (order c.args.self.now) (count_by (g.P.Probe.above c.args.probe.now) (items c.args.self.now)) c.loop-link.place.owner c.loop-link.place.rank
          i.0 (keys_back (g.P.Probe.above c.args.probe.now) (element_at c.args.self.now) (order c.args.self.now) c.requires.parted) i.1 i.2
          (c.requires.linked.rows c.args.level c.requires.level) (c.link-link.result.next - 1) one above),
      c.requires.linked.counted,
      c.requires.linked.short,
    )

pub loop-link-smaller : goal.loop-link-smaller
loop-link-smaller g c =
    let i = c.loop-link.invariant in
    let to : c.link-link.result.next ≡ next_at c.args.self.now c.args.level c.loop-link.place.owner = ap (λ l. l.next) c.link-link.ensures in
    let over : c.link-link.result.span ≡ span_at c.args.self.now c.args.level c.loop-link.place.owner = ap (λ l. l.span) c.link-link.ensures in
    let one : next_at c.args.self.now c.args.level c.loop-link.place.owner ≡ suc (c.link-link.result.next - 1) = omega (arith, to, c.if-link-eq0.false) in
    let above : g.P.Probe.above c.args.probe.now (element_at c.args.self.now (c.link-link.result.next - 1)) ≡ true = sym c.passes.ensures ∙ c.if-not-passes.false in
    let many : (count_by (g.P.Probe.above c.args.probe.now) (items c.args.self.now)) ≤ length (order c.args.self.now) =
    omega (arith, count_by-le-length (g.P.Probe.above c.args.probe.now) (items c.args.self.now), length_of_map (element_at c.args.self.now) (order c.args.self.now)) in
    omega (
      arith,
      over,
      many,
      (passes_before (g.P.Probe.above c.args.probe.now) (element_at c.args.self.now) (tall c.args.self.now c.args.level) (next_at c.args.self.now c.args.level)
          (span_at c.args.self.now c.args.level) (order c.args.self.now) (count_by (g.P.Probe.above c.args.probe.now) (items c.args.self.now)) c.loop-link.place.owner c.loop-link.place.rank
          i.0 (keys_back (g.P.Probe.above c.args.probe.now) (element_at c.args.self.now) (order c.args.self.now) c.requires.parted) i.1 i.2
          (c.requires.linked.rows c.args.level c.requires.level) (c.link-link.result.next - 1) one above),
      some_span (tall c.args.self.now c.args.level)
          (next_at c.args.self.now c.args.level) (span_at c.args.self.now c.args.level) (order c.args.self.now) (count_by (g.P.Probe.above c.args.probe.now) (items c.args.self.now))
          c.loop-link.place.owner c.loop-link.place.rank i.0 i.1 (c.requires.linked.rows c.args.level c.requires.level),
    )

pub loop-link-preserved : goal.loop-link-preserved
loop-link-preserved g c =
    let i = c.loop-link.invariant in
    let to : c.link-link.result.next ≡ next_at c.args.self.now c.args.level c.loop-link.place.owner = ap (λ l. l.next) c.link-link.ensures in
    let over : c.link-link.result.span ≡ span_at c.args.self.now c.args.level c.loop-link.place.owner = ap (λ l. l.span) c.link-link.ensures in
    let one : next_at c.args.self.now c.args.level c.loop-link.place.owner ≡ suc (c.link-link.result.next - 1) = omega (arith, to, c.if-link-eq0.false) in
    let above : g.P.Probe.above c.args.probe.now (element_at c.args.self.now (c.link-link.result.next - 1)) ≡ true = sym c.passes.ensures ∙ c.if-not-passes.false in
    let s = on (tall c.args.self.now c.args.level) (next_at c.args.self.now c.args.level) (span_at c.args.self.now c.args.level) (order c.args.self.now)
    (count_by (g.P.Probe.above c.args.probe.now) (items c.args.self.now)) c.loop-link.place.owner c.loop-link.place.rank i.0 i.1 i.2
    (c.requires.linked.rows c.args.level c.requires.level)
    (passes_before (g.P.Probe.above c.args.probe.now) (element_at c.args.self.now) (tall c.args.self.now c.args.level) (next_at c.args.self.now c.args.level)
    (span_at c.args.self.now c.args.level) (order c.args.self.now) (count_by (g.P.Probe.above c.args.probe.now) (items c.args.self.now)) c.loop-link.place.owner c.loop-link.place.rank
    i.0 (keys_back (g.P.Probe.above c.args.probe.now) (element_at c.args.self.now) (order c.args.self.now) c.requires.parted) i.1 i.2
    (c.requires.linked.rows c.args.level c.requires.level) (c.link-link.result.next - 1) one above) in (
      s.0,
      subst (λ n. Stands (tall c.args.self.now c.args.level) (take (count_by (g.P.Probe.above c.args.probe.now) (items c.args.self.now)) (order c.args.self.now)) n s.0) (sym to) s.1,
      omega (arith, over, s.2),
    )
