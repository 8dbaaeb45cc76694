use Rattle.std.proofs.Common.{◌≡◌, ◌+◌, ◌-◌, ◌<◌, length, sym, ap, ◌∙◌, subst, arith}
use Rattle.score_list.specs.Linked.{order, next_at, score_at}
use Rattle.score_list.proofs.Walks.{has_link, leads_on, holds_next}
use Rattle.score_list.proofs.Between.{behind_fails, element_behind, each_there, none_left, not_above}
use Rattle.score_list.proofs.towers.Towers.stops_behind.Goals as goal

pub returns-then-rank-self : goal.returns-then-rank-self
returns-then-rank-self g c = λ _. none_left c.args.self.now c.args.rank (g.P.Probe.above c.args.probe.now) (omega (arith, c.if-rank-self.true, c.requires.linked.counted))

pub link-link-requires : goal.link-link-requires
link-link-requires g c = has_link c.args.self.now c.requires.linked c.args.rank c.args.key c.requires.at

pub passes-requires-clause-some : goal.passes-requires-clause-some
passes-requires-clause-some g c =
    let t = c.args.self.now in
    let more : c.args.rank + 1 < length (order t) = omega (arith, c.if-rank-self.false, c.requires.linked.counted, c.requires.at.0) in
    let to = ap (λ l. l.next) c.link-link.ensures ∙ leads_on t c.requires.linked c.args.rank c.args.key c.requires.at more in
    omega (arith, to)

pub passes-requires-clause-score : goal.passes-requires-clause-score
passes-requires-clause-score g c =
    let t = c.args.self.now in
    let more : c.args.rank + 1 < length (order t) = omega (arith, c.if-rank-self.false, c.requires.linked.counted, c.requires.at.0) in
    let leads = leads_on t c.requires.linked c.args.rank c.args.key c.requires.at more in
    let link : c.link-link.result.next ≡ next_at t 0 (c.args.key + 1) = ap (λ l. l.next) c.link-link.ensures in
    let held : c.link-link.result.score ≡ score_at t 0 (c.args.key + 1) = ap (λ l. l.score) c.link-link.ensures in
    held ∙ holds_next t c.requires.linked c.args.rank c.args.key c.requires.at (c.link-link.result.next - 1) (omega (arith, link, leads))

pub passes-requires-clause-compares : goal.passes-requires-clause-compares
passes-requires-clause-compares g c =
    let t = c.args.self.now in
    let more : c.args.rank + 1 < length (order t) = omega (arith, c.if-rank-self.false, c.requires.linked.counted, c.requires.at.0) in
    let to = ap (λ l. l.next) c.link-link.ensures ∙ leads_on t c.requires.linked c.args.rank c.args.key c.requires.at more in
    subst (g.P.Probe.compares c.args.probe.now) (sym (element_behind t c.args.rank c.link-link.result.next more to))
    (each_there t c.args.rank (g.P.Probe.compares c.args.probe.now) more c.requires.compares)

pub returns : goal.returns
returns g c = λ fails.
    (let t = c.args.self.now in
    let more : c.args.rank + 1 < length (order t) = omega (arith, c.if-rank-self.false, c.requires.linked.counted, c.requires.at.0) in
    let to = ap (λ l. l.next) c.link-link.ensures ∙ leads_on t c.requires.linked c.args.rank c.args.key c.requires.at more in
    behind_fails t c.args.rank (g.P.Probe.above c.args.probe.now) more c.requires.parted
    (ap (g.P.Probe.above c.args.probe.now) (sym (element_behind t c.args.rank c.link-link.result.next more to)) ∙ sym c.passes.ensures ∙ not_above c.passes.result fails))
