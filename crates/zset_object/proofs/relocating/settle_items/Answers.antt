use Rattle.std.proofs.Common.{◌≡◌, ◌≤◌, ◌<◌, ◌⊎◌, inl, inr, sym, ap, ◌∙◌, arith}
use Rattle.blocks.proofs.Sweeps.{calmer_same, calmer_next}
use Rattle.rehash_dict.specs.Table.{item}
use Rattle.score_table.proofs.Settling.{settled_same}
use Rattle.zset_object.proofs.Settling.{settled_more, settled_weaker}
use Rattle.collection_walk.proofs.Numbered.{calm_more}
use Rattle.zset_object.proofs.relocating.settle_items.Goals as goal

pub loop-item-init : goal.loop-item-init
loop-item-init g c = record {
  settled = settled_same (g.B.BlockStore.blocks c.args.store.now) c.args.table.now _ c.requires.sound;
  calm = λ i e low high there. absurd (omega (arith, low, high));
  calmer = calmer_same (g.B.BlockStore.heap c.args.store.now);
}

pub settle_item-requires : goal.settle_item-requires
settle_item-requires g c = c.loop-item.invariant.settled.sound

pub loop-item-preserved : goal.loop-item-preserved
loop-item-preserved g c =
    let m = g.B.BlockStore.blocks c.args.store.now in
    let inv = c.loop-item.invariant in
    let one = c.settle_item.ensures in
    record {
      settled = settled_more m (g.B.BlockStore.blocks c.loop-item.store) (g.B.BlockStore.blocks c.settle_item.new.store) c.args.table.now c.loop-item.table c.settle_item.new.self
          c.args.part.start c.loop-item.item (omega arith) inv.settled one.settled;
      calm = calm_more (g.B.BlockStore.heap c.loop-item.store) (g.B.BlockStore.heap c.settle_item.new.store) c.loop-item.table.table c.settle_item.new.self.table c.args.part.start
          c.loop-item.item one.calmer one.settled.others inv.calm
          (λ i e low high there. let same : i ≡ c.loop-item.item = omega (arith, low, high) in one.calm e (ap (item c.settle_item.new.self.table) (sym same) ∙ there));
      calmer = calmer_next (g.B.BlockStore.heap c.args.store.now) (g.B.BlockStore.heap c.loop-item.store) (g.B.BlockStore.heap c.settle_item.new.store) inv.calmer one.calmer;
    }

pub returns-clause-settled : goal.returns-clause-settled
returns-clause-settled g c =
    settled_weaker (g.B.BlockStore.blocks c.args.store.now) (g.B.BlockStore.blocks c.loop-item.store) c.args.table.now c.loop-item.table
    (λ i. (i < c.args.part.start) ⊎ (c.loop-item.item ≤ i)) (λ i. (i < c.args.part.start) ⊎ (c.args.part.end ≤ i))
    (λ i h. elim h [
      | inl low ↦ inl low
      | inr high ↦ inr (omega (arith, high, c.loop-item.auto.item, c.requires.order, c.loop-item-test.false))
    ]) c.loop-item.invariant.settled

pub returns-clause-calm : goal.returns-clause-calm
returns-clause-calm g c = λ i e low high there. c.loop-item.invariant.calm i e low (omega (arith, high, c.loop-item-test.false)) there

pub returns-clause-calmer : goal.returns-clause-calmer
returns-clause-calmer g c = c.loop-item.invariant.calmer

pub returns-then-is_calm-clause-settled : goal.returns-then-is_calm-clause-settled
returns-then-is_calm-clause-settled g c = settled_same (g.B.BlockStore.blocks c.args.store.now) c.args.table.now _ c.requires.sound

pub returns-then-is_calm-clause-calm : goal.returns-then-is_calm-clause-calm
returns-then-is_calm-clause-calm g c = λ i e low high there. c.if-is_calm.ensures e.key

pub returns-then-is_calm-clause-calmer : goal.returns-then-is_calm-clause-calmer
returns-then-is_calm-clause-calmer g c = calmer_same (g.B.BlockStore.heap c.args.store.now)
