use Rattle.std.specs.Prelude.{slice_index_or}
use Rattle.std.proofs.Common.{◌-◌, subst, sym, arith}
use Rattle.score_list.specs.Linked.{no_place, order, with_at, Hangs}
use Rattle.score_list.proofs.Threading.{begun, some_level, arrives, left_is, last_reaches, goes_past, span_fits, edited, reached_apart, hung_row, hung_scored}
use Rattle.score_list.proofs.towers.Towers.thread.Goals as goal

pub loop-level-init : goal.loop-level-init
loop-level-init c = begun c.args.self.now (order c.args.self.now) (with_at (order c.args.self.now) c.args.rank c.args.key) c.args.rank c.requires.linked

pub hang-requires-clause-reaches : goal.hang-requires-clause-reaches
hang-requires-clause-reaches c = last_reaches c.args.self.now (order c.args.self.now) (with_at (order c.args.self.now) c.args.rank c.args.key) c.args.rank c.loop-level.self
    (c.loop-level.level - 1) c.requires.linked
    (some_level c.args.self.now (order c.args.self.now) (with_at (order c.args.self.now) c.args.rank c.args.key) c.args.rank c.loop-level.self c.loop-level.level c.loop-level-test.true
    c.loop-level.invariant) (slice_index_or c.args.path.now (c.loop-level.level - 1) no_place).owner (slice_index_or c.args.path.now (c.loop-level.level - 1) no_place).rank
    (c.requires.path (c.loop-level.level - 1) (omega (arith, c.loop-level.invariant.bound, c.loop-level-test.true)))

pub hang-requires-clause-span : goal.hang-requires-clause-span
hang-requires-clause-span c =
    let past = goes_past c.args.self.now (order c.args.self.now) (with_at (order c.args.self.now) c.args.rank c.args.key) c.args.rank c.loop-level.self (c.loop-level.level - 1)
    c.requires.linked
    (some_level c.args.self.now (order c.args.self.now) (with_at (order c.args.self.now) c.args.rank c.args.key) c.args.rank c.loop-level.self c.loop-level.level c.loop-level-test.true
    c.loop-level.invariant) (slice_index_or c.args.path.now (c.loop-level.level - 1) no_place).owner (slice_index_or c.args.path.now (c.loop-level.level - 1) no_place).rank
    (c.requires.path (c.loop-level.level - 1) (omega (arith, c.loop-level.invariant.bound, c.loop-level-test.true))) in
    omega (arith, past)

pub hang-requires-clause-room : goal.hang-requires-clause-room
hang-requires-clause-room c = omega (
  arith,
  c.requires.room,
  c.requires.linked.counted,
  span_fits c.args.self.now (order c.args.self.now) (with_at (order c.args.self.now) c.args.rank c.args.key) c.args.rank
      c.loop-level.self (c.loop-level.level - 1) c.requires.linked
      (some_level c.args.self.now (order c.args.self.now) (with_at (order c.args.self.now) c.args.rank c.args.key) c.args.rank c.loop-level.self c.loop-level.level c.loop-level-test.true
      c.loop-level.invariant) (slice_index_or c.args.path.now (c.loop-level.level - 1) no_place).owner (slice_index_or c.args.path.now (c.loop-level.level - 1) no_place).rank
      (c.requires.path (c.loop-level.level - 1) (omega (arith, c.loop-level.invariant.bound, c.loop-level-test.true))) c.requires.rank,
)

pub hang-requires-clause-apart : goal.hang-requires-clause-apart
hang-requires-clause-apart c = λ same. reached_apart c.args.self.now (order c.args.self.now) (with_at (order c.args.self.now) c.args.rank c.args.key) c.args.rank c.loop-level.self
    (c.loop-level.level - 1) c.requires.linked
    (some_level c.args.self.now (order c.args.self.now) (with_at (order c.args.self.now) c.args.rank c.args.key) c.args.rank c.loop-level.self c.loop-level.level c.loop-level-test.true
    c.loop-level.invariant) (slice_index_or c.args.path.now (c.loop-level.level - 1) no_place).owner (slice_index_or c.args.path.now (c.loop-level.level - 1) no_place).rank
    (c.requires.path (c.loop-level.level - 1) (omega (arith, c.loop-level.invariant.bound, c.loop-level-test.true))) c.args.key c.requires.fresh (sym same)

pub loop-level-preserved : goal.loop-level-preserved
loop-level-preserved c =
    edited c.args.self.now (order c.args.self.now) (with_at (order c.args.self.now) c.args.rank c.args.key) c.args.rank c.loop-level.self (c.loop-level.level - 1) c.requires.linked
    (some_level c.args.self.now (order c.args.self.now) (with_at (order c.args.self.now) c.args.rank c.args.key) c.args.rank c.loop-level.self c.loop-level.level c.loop-level-test.true
    c.loop-level.invariant) (slice_index_or c.args.path.now (c.loop-level.level - 1) no_place).owner (slice_index_or c.args.path.now (c.loop-level.level - 1) no_place).rank
    (c.requires.path (c.loop-level.level - 1) (omega (arith, c.loop-level.invariant.bound, c.loop-level-test.true))) c.hang.new.self c.hang.ensures.hangs.keeps
    c.hang.ensures.hangs.other_levels
    (hung_row c.loop-level.self c.hang.new.self (order c.args.self.now) c.args.rank (c.loop-level.level - 1) c.args.key
    (slice_index_or c.args.path.now (c.loop-level.level - 1) no_place).owner
    (c.requires.path (c.loop-level.level - 1) (omega (arith, c.loop-level.invariant.bound, c.loop-level-test.true))).0
    (subst (λ n. Hangs c.loop-level.self c.hang.new.self (c.loop-level.level - 1) c.args.key (slice_index_or c.args.path.now (c.loop-level.level - 1) no_place).owner n)
    (sym
    (left_is c.args.self.now (order c.args.self.now) (with_at (order c.args.self.now) c.args.rank c.args.key) c.args.rank c.loop-level.self (c.loop-level.level - 1) c.requires.linked
    (some_level c.args.self.now (order c.args.self.now) (with_at (order c.args.self.now) c.args.rank c.args.key) c.args.rank c.loop-level.self c.loop-level.level c.loop-level-test.true
    c.loop-level.invariant) (slice_index_or c.args.path.now (c.loop-level.level - 1) no_place).owner (slice_index_or c.args.path.now (c.loop-level.level - 1) no_place).rank
    (c.requires.path (c.loop-level.level - 1) (omega (arith, c.loop-level.invariant.bound, c.loop-level-test.true))))) c.hang.ensures.hangs)
    (arrives c.args.self.now (order c.args.self.now) (with_at (order c.args.self.now) c.args.rank c.args.key) c.args.rank c.loop-level.self (c.loop-level.level - 1) c.requires.linked
    (some_level c.args.self.now (order c.args.self.now) (with_at (order c.args.self.now) c.args.rank c.args.key) c.args.rank c.loop-level.self c.loop-level.level c.loop-level-test.true
    c.loop-level.invariant) (slice_index_or c.args.path.now (c.loop-level.level - 1) no_place).owner (slice_index_or c.args.path.now (c.loop-level.level - 1) no_place).rank
    (c.requires.path (c.loop-level.level - 1) (omega (arith, c.loop-level.invariant.bound, c.loop-level-test.true))))
    (c.loop-level.invariant.low (c.loop-level.level - 1) (omega (arith, c.loop-level-test.true))) c.requires.fresh c.requires.linked.distinct)
    (hung_scored c.loop-level.self c.hang.new.self (order c.args.self.now) c.args.rank (c.loop-level.level - 1) c.args.key
    (slice_index_or c.args.path.now (c.loop-level.level - 1) no_place).owner
    (c.requires.path (c.loop-level.level - 1) (omega (arith, c.loop-level.invariant.bound, c.loop-level-test.true))).0
    c.hang.ensures.score c.hang.ensures.hangs.keeps
    (arrives c.args.self.now (order c.args.self.now) (with_at (order c.args.self.now) c.args.rank c.args.key) c.args.rank c.loop-level.self (c.loop-level.level - 1) c.requires.linked
    (some_level c.args.self.now (order c.args.self.now) (with_at (order c.args.self.now) c.args.rank c.args.key) c.args.rank c.loop-level.self c.loop-level.level c.loop-level-test.true
    c.loop-level.invariant) (slice_index_or c.args.path.now (c.loop-level.level - 1) no_place).owner (slice_index_or c.args.path.now (c.loop-level.level - 1) no_place).rank
    (c.requires.path (c.loop-level.level - 1) (omega (arith, c.loop-level.invariant.bound, c.loop-level-test.true))))
    (c.loop-level.invariant.low_scored (c.loop-level.level - 1) (omega (arith, c.loop-level-test.true))) c.requires.fresh c.requires.linked.distinct)

pub returns : goal.returns
returns c = record {
  rows = λ l lt. c.loop-level.invariant.high l (omega (arith, c.loop-level-test.false)) lt;
  scored = λ l lt. c.loop-level.invariant.high_scored l (omega (arith, c.loop-level-test.false)) lt;
  keeps = c.loop-level.invariant.keeps;
}

pub overflow_sub-rank : goal.overflow_sub-rank
overflow_sub-rank c =
    let way = c.requires.path (c.loop-level.level - 1) (omega (arith, c.loop-level.invariant.bound, c.loop-level-test.true)) in
    omega (arith, way.2)
