use Rattle.std.proofs.Common.{◌≡◌, ◌+◌, ◌<◌, suc, length, get_or, ap, ◌∙◌, arith}
use Rattle.score_list.specs.Linked.{order}
use Rattle.score_list.proofs.Walks.{has_link, leads_on}
use Rattle.score_list.proofs.cursor.Cursor.next.Goals as goal

pub link-link-requires : goal.link-link-requires
link-link-requires c = has_link c.self.inside.towers.now c.self.invariant.0 c.self.inside.rank c.self.inside.key c.self.invariant.1

pub overflow_sub-result : goal.overflow_sub-result
overflow_sub-result c =
    let more : c.self.inside.rank + 1 < length (order c.self.inside.towers.now) = omega (arith, c.if-rank-self.false, c.self.invariant.0.counted, c.self.invariant.1.0) in
    let to : c.link-link.result.next ≡ suc (get_or (order c.self.inside.towers.now) (c.self.inside.rank + 1) 0) = ap (λ l. l.next) c.link-link.ensures
    ∙ leads_on c.self.inside.towers.now c.self.invariant.0 c.self.inside.rank c.self.inside.key c.self.invariant.1 more in
    omega (arith, to)

pub invariant_of-result : goal.invariant_of-result
invariant_of-result c =
    let more : c.self.inside.rank + 1 < length (order c.self.inside.towers.now) = omega (arith, c.if-rank-self.false, c.self.invariant.0.counted, c.self.invariant.1.0) in
    let to : c.link-link.result.next ≡ suc (get_or (order c.self.inside.towers.now) (c.self.inside.rank + 1) 0) = ap (λ l. l.next) c.link-link.ensures
    ∙ leads_on c.self.inside.towers.now c.self.invariant.0 c.self.inside.rank c.self.inside.key c.self.invariant.1 more in
    (c.self.invariant.0, (more, omega (arith, to)), omega (arith, to))
