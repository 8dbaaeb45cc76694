use Rattle.std.specs.Prelude.{slice_index_or}
use Rattle.std.proofs.Common.{◌-◌, subst, sym, arith}
use Rattle.score_list.specs.Linked.{no_place, order, without_at, Unhangs}
use Rattle.score_list.proofs.Threading.{begun, some_level, arrives, left_is, last_reaches, goes_past, edited, unhung_row, unhung_scored, span_there}
use Rattle.score_list.proofs.towers.Towers.unthread.Goals as goal

pub loop-level-init : goal.loop-level-init
loop-level-init c = begun c.args.self.now (order c.args.self.now) (without_at (order c.args.self.now) c.args.rank) c.args.rank c.requires.linked

pub unhang-requires-clause-reaches : goal.unhang-requires-clause-reaches
unhang-requires-clause-reaches c = last_reaches c.args.self.now (order c.args.self.now) (without_at (order c.args.self.now) c.args.rank) c.args.rank c.loop-level.self
    (c.loop-level.level - 1) c.requires.linked
    (some_level c.args.self.now (order c.args.self.now) (without_at (order c.args.self.now) c.args.rank) c.args.rank c.loop-level.self c.loop-level.level c.loop-level-test.true
    c.loop-level.invariant) (slice_index_or c.args.path.now (c.loop-level.level - 1) no_place).owner (slice_index_or c.args.path.now (c.loop-level.level - 1) no_place).rank
    (c.requires.path (c.loop-level.level - 1) (omega (arith, c.loop-level.invariant.bound, c.loop-level-test.true)))

pub unhang-requires-clause-span : goal.unhang-requires-clause-span
unhang-requires-clause-span c =
    let past = goes_past c.args.self.now (order c.args.self.now) (without_at (order c.args.self.now) c.args.rank) c.args.rank c.loop-level.self (c.loop-level.level - 1) c.requires.linked
    (some_level c.args.self.now (order c.args.self.now) (without_at (order c.args.self.now) c.args.rank) c.args.rank c.loop-level.self c.loop-level.level c.loop-level-test.true
    c.loop-level.invariant) (slice_index_or c.args.path.now (c.loop-level.level - 1) no_place).owner (slice_index_or c.args.path.now (c.loop-level.level - 1) no_place).rank
    (c.requires.path (c.loop-level.level - 1) (omega (arith, c.loop-level.invariant.bound, c.loop-level-test.true))) in
    omega (arith, past)

pub unhang-requires-clause-room : goal.unhang-requires-clause-room
unhang-requires-clause-room c = λ high. omega (
  arith,
  c.requires.room,
  c.requires.linked.counted,
  span_there c.loop-level.self (order c.args.self.now) c.args.rank (c.loop-level.level - 1) c.args.key
      (c.loop-level.invariant.low (c.loop-level.level - 1) (omega (arith, c.loop-level-test.true))) c.requires.rank c.requires.key high,
)

pub loop-level-preserved : goal.loop-level-preserved
loop-level-preserved c =
    edited c.args.self.now (order c.args.self.now) (without_at (order c.args.self.now) c.args.rank) c.args.rank c.loop-level.self (c.loop-level.level - 1) c.requires.linked
    (some_level c.args.self.now (order c.args.self.now) (without_at (order c.args.self.now) c.args.rank) c.args.rank c.loop-level.self c.loop-level.level c.loop-level-test.true
    c.loop-level.invariant) (slice_index_or c.args.path.now (c.loop-level.level - 1) no_place).owner (slice_index_or c.args.path.now (c.loop-level.level - 1) no_place).rank
    (c.requires.path (c.loop-level.level - 1) (omega (arith, c.loop-level.invariant.bound, c.loop-level-test.true))) c.unhang.new.self
    c.unhang.ensures.hangs.keeps c.unhang.ensures.hangs.other_levels
    (unhung_row c.loop-level.self c.unhang.new.self (order c.args.self.now) c.args.rank (c.loop-level.level - 1) c.args.key
    (slice_index_or c.args.path.now (c.loop-level.level - 1) no_place).owner
    (c.requires.path (c.loop-level.level - 1) (omega (arith, c.loop-level.invariant.bound, c.loop-level-test.true))).0
    (subst (λ n. Unhangs c.loop-level.self c.unhang.new.self (c.loop-level.level - 1) c.args.key (slice_index_or c.args.path.now (c.loop-level.level - 1) no_place).owner n)
    (sym
    (left_is c.args.self.now (order c.args.self.now) (without_at (order c.args.self.now) c.args.rank) c.args.rank c.loop-level.self (c.loop-level.level - 1) c.requires.linked
    (some_level c.args.self.now (order c.args.self.now) (without_at (order c.args.self.now) c.args.rank) c.args.rank c.loop-level.self c.loop-level.level c.loop-level-test.true
    c.loop-level.invariant) (slice_index_or c.args.path.now (c.loop-level.level - 1) no_place).owner (slice_index_or c.args.path.now (c.loop-level.level - 1) no_place).rank
    (c.requires.path (c.loop-level.level - 1) (omega (arith, c.loop-level.invariant.bound, c.loop-level-test.true))))) c.unhang.ensures.hangs)
    (arrives c.args.self.now (order c.args.self.now) (without_at (order c.args.self.now) c.args.rank) c.args.rank c.loop-level.self (c.loop-level.level - 1) c.requires.linked
    (some_level c.args.self.now (order c.args.self.now) (without_at (order c.args.self.now) c.args.rank) c.args.rank c.loop-level.self c.loop-level.level c.loop-level-test.true
    c.loop-level.invariant) (slice_index_or c.args.path.now (c.loop-level.level - 1) no_place).owner (slice_index_or c.args.path.now (c.loop-level.level - 1) no_place).rank
    (c.requires.path (c.loop-level.level - 1) (omega (arith, c.loop-level.invariant.bound, c.loop-level-test.true))))
    (c.loop-level.invariant.low (c.loop-level.level - 1) (omega (arith, c.loop-level-test.true))) c.requires.rank c.requires.key c.requires.linked.distinct)
    (unhung_scored c.loop-level.self c.unhang.new.self (order c.args.self.now) c.args.rank (c.loop-level.level - 1) c.args.key
    (slice_index_or c.args.path.now (c.loop-level.level - 1) no_place).owner
    (c.requires.path (c.loop-level.level - 1) (omega (arith, c.loop-level.invariant.bound, c.loop-level-test.true))).0
    c.unhang.ensures.score c.unhang.ensures.hangs.keeps
    (arrives c.args.self.now (order c.args.self.now) (without_at (order c.args.self.now) c.args.rank) c.args.rank c.loop-level.self (c.loop-level.level - 1) c.requires.linked
    (some_level c.args.self.now (order c.args.self.now) (without_at (order c.args.self.now) c.args.rank) c.args.rank c.loop-level.self c.loop-level.level c.loop-level-test.true
    c.loop-level.invariant) (slice_index_or c.args.path.now (c.loop-level.level - 1) no_place).owner (slice_index_or c.args.path.now (c.loop-level.level - 1) no_place).rank
    (c.requires.path (c.loop-level.level - 1) (omega (arith, c.loop-level.invariant.bound, c.loop-level-test.true))))
    (c.loop-level.invariant.low_scored (c.loop-level.level - 1) (omega (arith, c.loop-level-test.true))) c.requires.rank c.requires.key c.requires.linked.distinct)

pub returns : goal.returns
returns c = record {
  rows = λ l lt. c.loop-level.invariant.high l (omega (arith, c.loop-level-test.false)) lt;
  scored = λ l lt. c.loop-level.invariant.high_scored l (omega (arith, c.loop-level-test.false)) lt;
  keeps = c.loop-level.invariant.keeps;
}

pub overflow_sub-rank : goal.overflow_sub-rank
overflow_sub-rank c =
    let way = c.requires.path (c.loop-level.level - 1) (omega (arith, c.loop-level.invariant.bound, c.loop-level-test.true)) in
    omega (arith, way.2)
