use Rattle.std.proofs.Common.{take}
use Rattle.class_heap.specs.Heap.{heap_slabs}
use Rattle.defrag_rax.specs.Tally.{Counts}
use Rattle.defrag_rax.proofs.tally.count_path.Given as goal

abbrev pub invariant-loop-index : goal.invariant-loop-index
invariant-loop-index l = Counts (heap_slabs l.heap) (take l.index l.path) l.initial.tally l.tally
