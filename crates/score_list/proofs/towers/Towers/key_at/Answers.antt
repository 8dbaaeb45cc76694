use Rattle.std.proofs.Common.{◌≡◌, ◌-◌, ap, arith}
use Rattle.score_list.specs.Linked.{next_at}
use Rattle.score_list.proofs.Searching.{descent_begins, stands_lower, descends, descended, lowest_next}
use Rattle.score_list.proofs.towers.Towers.key_at.Goals as goal

pub loop-level-init : goal.loop-level-init
loop-level-init c = descent_begins c.args.self.now c.args.rank (omega (arith, c.requires.rank))

pub advance-place-requires-clause-stands : goal.advance-place-requires-clause-stands
advance-place-requires-clause-stands c = stands_lower c.args.self.now c.args.rank c.loop-level.level c.loop-level.place.owner c.loop-level.place.rank c.loop-level-test.true
    c.loop-level.invariant.stands

pub loop-level-preserved : goal.loop-level-preserved
loop-level-preserved c = descends c.args.self.now c.args.rank (c.loop-level.level - 1) c.advance-place.result.owner c.advance-place.result.rank
    (omega (arith, c.loop-level.invariant.bound, c.loop-level-test.true)) c.advance-place.ensures

pub overflow_sub-result : goal.overflow_sub-result
overflow_sub-result c =
    let to : c.link.result.next ≡ next_at c.args.self.now 0 c.loop-level.place.owner = ap (λ l. l.next) c.link.ensures in
    omega (
      arith,
      to,
      lowest_next c.args.self.now c.requires.linked c.args.rank c.loop-level.place.owner c.loop-level.place.rank
          (descended c.args.self.now c.args.rank c.loop-level.level c.loop-level.place.owner c.loop-level.place.rank c.loop-level.invariant c.loop-level-test.false) c.requires.rank,
    )

pub returns-clause-at : goal.returns-clause-at
returns-clause-at c =
    let to : c.link.result.next ≡ next_at c.args.self.now 0 c.loop-level.place.owner = ap (λ l. l.next) c.link.ensures in
    omega (
      arith,
      to,
      lowest_next c.args.self.now c.requires.linked c.args.rank c.loop-level.place.owner c.loop-level.place.rank
          (descended c.args.self.now c.args.rank c.loop-level.level c.loop-level.place.owner c.loop-level.place.rank c.loop-level.invariant c.loop-level-test.false) c.requires.rank,
    )

pub returns-clause-fits : goal.returns-clause-fits
returns-clause-fits c =
    let to : c.link.result.next ≡ next_at c.args.self.now 0 c.loop-level.place.owner = ap (λ l. l.next) c.link.ensures in
    omega (
      arith,
      to,
      lowest_next c.args.self.now c.requires.linked c.args.rank c.loop-level.place.owner c.loop-level.place.rank
          (descended c.args.self.now c.args.rank c.loop-level.level c.loop-level.place.owner c.loop-level.place.rank c.loop-level.invariant c.loop-level-test.false) c.requires.rank,
    )
