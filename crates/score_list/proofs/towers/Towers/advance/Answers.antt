use Rattle.std.proofs.Common.{◌≡◌, take, ap, subst, sym, arith}
use Rattle.score_list.specs.Linked.{tall, next_at, span_at, order}
use Rattle.score_list.specs.Rows.{Stands}
use Rattle.score_list.proofs.Places.{on, arrived, some_span}
use Rattle.score_list.proofs.towers.Towers.advance.Goals as goal

pub returns-then-link-rank : goal.returns-then-link-rank
returns-then-link-rank c =
    let i = c.loop-place.invariant in
    let is : c.link-link.result.span ≡ span_at c.args.self.now c.args.level c.loop-place.place.owner = ap (λ l. l.span) c.link-link.ensures in
    arrived (tall c.args.self.now c.args.level) (next_at c.args.self.now c.args.level) (span_at c.args.self.now c.args.level) (order c.args.self.now) c.args.rank c.loop-place.place.owner
    c.loop-place.place.rank i.0 i.1 i.2 c.requires.row (omega (arith, is, i.2, c.if-link-rank.true))

pub loop-place-smaller : goal.loop-place-smaller
loop-place-smaller c =
    let i = c.loop-place.invariant in
    let is : c.link-link.result.span ≡ span_at c.args.self.now c.args.level c.loop-place.place.owner = ap (λ l. l.span) c.link-link.ensures in
    let some = some_span (tall c.args.self.now c.args.level) (next_at c.args.self.now c.args.level) (span_at c.args.self.now c.args.level) (order c.args.self.now) c.args.rank
    c.loop-place.place.owner c.loop-place.place.rank i.0 i.1 c.requires.row in
    omega (arith, is, some, i.2, c.if-link-rank.false)

pub loop-place-preserved : goal.loop-place-preserved
loop-place-preserved c =
    let i = c.loop-place.invariant in
    let is : c.link-link.result.span ≡ span_at c.args.self.now c.args.level c.loop-place.place.owner = ap (λ l. l.span) c.link-link.ensures in
    let to : c.link-link.result.next ≡ next_at c.args.self.now c.args.level c.loop-place.place.owner = ap (λ l. l.next) c.link-link.ensures in
    let s = on (tall c.args.self.now c.args.level) (next_at c.args.self.now c.args.level) (span_at c.args.self.now c.args.level) (order c.args.self.now) c.args.rank
    c.loop-place.place.owner c.loop-place.place.rank i.0 i.1 i.2 c.requires.row (omega (arith, is, i.2, c.if-link-rank.false)) in
    (s.0, subst (λ n. Stands (tall c.args.self.now c.args.level) (take c.args.rank (order c.args.self.now)) n s.0) (sym to) s.1, omega (arith, is, s.2))
