use Rattle.std.proofs.Common.{◌≤◌, ◌<◌, ◌⊎◌}
use Rattle.blocks.specs.Slabs.{Calmer}
use Rattle.score_table.specs.Relocation.{IsRelocatedTable}
use Rattle.collection_walk.specs.Marks.{IsCalm}
use Rattle.zset_object.proofs.relocating.settle_items.Given as goal

abbrev pub invariant-loop-item : goal.invariant-loop-item
invariant-loop-item g l = record {
  settled : IsRelocatedTable (g.B.BlockStore.blocks l.initial.store) (g.B.BlockStore.blocks l.store) l.initial.table l.table (λ i. (i < l.fn.part.start) ⊎ (l.item ≤ i));
  calm : IsCalm (g.B.BlockStore.heap l.store) l.table.table l.fn.part.start l.item;
  calmer : Calmer (g.B.BlockStore.heap l.initial.store) (g.B.BlockStore.heap l.store);
}
