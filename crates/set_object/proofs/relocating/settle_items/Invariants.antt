use Rattle.std.proofs.Common.{◌≤◌, ◌<◌, ◌⊎◌}
use Rattle.blocks.specs.Slabs.{Calmer}
use Rattle.set_object.specs.Relocation.{IsRelocatedTable}
use Rattle.collection_walk.specs.Marks.{IsCalm}
use Rattle.set_object.proofs.relocating.settle_items.Given as goal

abbrev pub invariant-loop-at : goal.invariant-loop-at
invariant-loop-at g l = record {
  settled : IsRelocatedTable (g.B.BlockStore.blocks l.initial.store) (g.B.BlockStore.blocks l.store) l.initial.table l.table (λ i. (i < l.fn.part.start) ⊎ (l.at ≤ i));
  calm : IsCalm (g.B.BlockStore.heap l.store) l.table l.fn.part.start l.at;
  calmer : Calmer (g.B.BlockStore.heap l.initial.store) (g.B.BlockStore.heap l.store);
}
