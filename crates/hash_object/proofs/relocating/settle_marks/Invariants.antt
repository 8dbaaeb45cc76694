use Rattle.std.proofs.Common.{◌≤◌, ◌<◌, ◌⊎◌}
use Rattle.blocks.specs.Slabs.{Calmer}
use Rattle.hash_object.specs.Relocation.{IsRelocatedTable, IsCalm}
use Rattle.hash_object.proofs.relocating.settle_marks.Given as goal

abbrev pub invariant-loop-mark : goal.invariant-loop-mark
invariant-loop-mark g l = record {
  settled : IsRelocatedTable (g.B.BlockStore.blocks l.initial.store) (g.B.BlockStore.blocks l.store) l.initial.table l.table (λ i. (i < l.fn.part.start) ⊎ (l.mark ≤ i));
  calm : IsCalm (g.B.BlockStore.heap l.store) l.table l.fn.part.start l.mark;
  calmer : Calmer (g.B.BlockStore.heap l.initial.store) (g.B.BlockStore.heap l.store);
}
