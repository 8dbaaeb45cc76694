use Rattle.std.proofs.Common.{◌≤◌, ◌<◌, ◌⊎◌, inl, inr, arith}
use Rattle.blocks.proofs.Change.{changes_owned}
use Rattle.blocks.proofs.Sweeps.{calmer_same, calmer_next}
use Rattle.hash_object.specs.Hashed.{blocks_of}
use Rattle.hash_object.proofs.Settling.{settled_same, settled_more, settled_weaker, calm_more}
use Rattle.hash_object.proofs.relocating.settle_marks.Goals as goal

pub loop-mark-init : goal.loop-mark-init
loop-mark-init g c = record {
  settled = settled_same (g.B.BlockStore.blocks c.args.store.now) c.args.table.now _ c.requires.keyed c.requires.owned;
  calm = λ i e low high there. absurd (omega (arith, low, high));
  calmer = calmer_same (g.B.BlockStore.heap c.args.store.now);
}

pub settle_mark-requires-clause-keyed : goal.settle_mark-requires-clause-keyed
settle_mark-requires-clause-keyed g c = c.loop-mark.invariant.settled.keyed

pub settle_mark-requires-clause-owned : goal.settle_mark-requires-clause-owned
settle_mark-requires-clause-owned g c = changes_owned (g.B.BlockStore.blocks c.args.store.now) (g.B.BlockStore.blocks c.loop-mark.store) (blocks_of c.args.table.now)
    (blocks_of c.loop-mark.table) c.loop-mark.invariant.settled.changes

pub loop-mark-preserved : goal.loop-mark-preserved
loop-mark-preserved g c =
    let m = g.B.BlockStore.blocks c.args.store.now in
    let inv = c.loop-mark.invariant in
    let one = c.settle_mark.ensures in
    record {
      settled = settled_more m (g.B.BlockStore.blocks c.loop-mark.store) (g.B.BlockStore.blocks c.settle_mark.new.store) c.args.table.now c.loop-mark.table c.settle_mark.new.table
          c.args.part.start c.loop-mark.mark (omega arith) inv.settled one.settled;
      calm = calm_more (g.B.BlockStore.heap c.loop-mark.store) (g.B.BlockStore.heap c.settle_mark.new.store) c.loop-mark.table c.settle_mark.new.table c.args.part.start c.loop-mark.mark
          one.calmer one.settled.others inv.calm one.calm;
      calmer = calmer_next (g.B.BlockStore.heap c.args.store.now) (g.B.BlockStore.heap c.loop-mark.store) (g.B.BlockStore.heap c.settle_mark.new.store) inv.calmer one.calmer;
    }

pub returns-clause-settled : goal.returns-clause-settled
returns-clause-settled g c =
    settled_weaker (g.B.BlockStore.blocks c.args.store.now) (g.B.BlockStore.blocks c.loop-mark.store) c.args.table.now c.loop-mark.table
    (λ i. (i < c.args.part.start) ⊎ (c.loop-mark.mark ≤ i)) (λ i. (i < c.args.part.start) ⊎ (c.args.part.end ≤ i))
    (λ i h. elim h [
      | inl low ↦ inl low
      | inr high ↦ inr (omega (arith, high, c.loop-mark.auto.mark, c.requires.order, c.loop-mark-test.false))
    ]) c.loop-mark.invariant.settled

pub returns-clause-calm : goal.returns-clause-calm
returns-clause-calm g c = λ i e low high there. c.loop-mark.invariant.calm i e low (omega (arith, high, c.loop-mark-test.false)) there

pub returns-clause-calmer : goal.returns-clause-calmer
returns-clause-calmer g c = c.loop-mark.invariant.calmer

pub returns-then-is_calm-clause-settled : goal.returns-then-is_calm-clause-settled
returns-then-is_calm-clause-settled g c = settled_same (g.B.BlockStore.blocks c.args.store.now) c.args.table.now _ c.requires.keyed c.requires.owned

pub returns-then-is_calm-clause-calm : goal.returns-then-is_calm-clause-calm
returns-then-is_calm-clause-calm g c = λ i e low high there. c.if-is_calm.ensures e

pub returns-then-is_calm-clause-calmer : goal.returns-then-is_calm-clause-calmer
returns-then-is_calm-clause-calmer g c = calmer_same (g.B.BlockStore.heap c.args.store.now)
