use Rattle.std.proofs.Common.{◌≤◌, ◌<◌, ◌⊎◌, inl, inr, arith}
use Rattle.blocks.proofs.Sweeps.{calmer_same, calmer_next}
use Rattle.set_object.proofs.Settling.{settled_same, settled_more, settled_weaker}
use Rattle.collection_walk.proofs.Numbered.{calm_more}
use Rattle.set_object.proofs.relocating.settle_items.Goals as goal

pub loop-at-init : goal.loop-at-init
loop-at-init g c = record {
  settled = settled_same (g.B.BlockStore.blocks c.args.store.now) c.args.table.now _ c.requires.keyed;
  calm = λ i e low high there. absurd (omega (arith, low, high));
  calmer = calmer_same (g.B.BlockStore.heap c.args.store.now);
}

pub settle_item-requires : goal.settle_item-requires
settle_item-requires g c = c.loop-at.invariant.settled.keyed

pub loop-at-preserved : goal.loop-at-preserved
loop-at-preserved g c =
    let m = g.B.BlockStore.blocks c.args.store.now in
    let inv = c.loop-at.invariant in
    let one = c.settle_item.ensures in
    record {
      settled = settled_more m (g.B.BlockStore.blocks c.loop-at.store) (g.B.BlockStore.blocks c.settle_item.new.store) c.args.table.now c.loop-at.table c.settle_item.new.table
          c.args.part.start c.loop-at.at (omega arith) inv.settled one.settled;
      calm = calm_more (g.B.BlockStore.heap c.loop-at.store) (g.B.BlockStore.heap c.settle_item.new.store) c.loop-at.table c.settle_item.new.table c.args.part.start c.loop-at.at one.calmer
          one.settled.others inv.calm one.calm;
      calmer = calmer_next (g.B.BlockStore.heap c.args.store.now) (g.B.BlockStore.heap c.loop-at.store) (g.B.BlockStore.heap c.settle_item.new.store) inv.calmer one.calmer;
    }

pub returns-clause-settled : goal.returns-clause-settled
returns-clause-settled g c =
    settled_weaker (g.B.BlockStore.blocks c.args.store.now) (g.B.BlockStore.blocks c.loop-at.store) c.args.table.now c.loop-at.table (λ i. (i < c.args.part.start) ⊎ (c.loop-at.at ≤ i))
    (λ i. (i < c.args.part.start) ⊎ (c.args.part.end ≤ i))
    (λ i h. elim h [
      | inl low ↦ inl low
      | inr high ↦ inr (omega (arith, high, c.loop-at.auto.at, c.requires.order, c.loop-at-test.false))
    ]) c.loop-at.invariant.settled

pub returns-clause-calm : goal.returns-clause-calm
returns-clause-calm g c = λ i e low high there. c.loop-at.invariant.calm i e low (omega (arith, high, c.loop-at-test.false)) there

pub returns-clause-calmer : goal.returns-clause-calmer
returns-clause-calmer g c = c.loop-at.invariant.calmer

pub returns-then-is_calm-clause-settled : goal.returns-then-is_calm-clause-settled
returns-then-is_calm-clause-settled g c = settled_same (g.B.BlockStore.blocks c.args.store.now) c.args.table.now _ c.requires.keyed

pub returns-then-is_calm-clause-calm : goal.returns-then-is_calm-clause-calm
returns-then-is_calm-clause-calm g c = λ i e low high there. c.if-is_calm.ensures e.key

pub returns-then-is_calm-clause-calmer : goal.returns-then-is_calm-clause-calmer
returns-then-is_calm-clause-calmer g c = calmer_same (g.B.BlockStore.heap c.args.store.now)
