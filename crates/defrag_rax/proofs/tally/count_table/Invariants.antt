use Rattle.std.proofs.Common.{take, flat_map}
use Rattle.class_heap.specs.Heap.{heap_blocks, heap_slabs}
use Rattle.defrag_rax.specs.Owned.{element_nodes}
use Rattle.defrag_rax.specs.Tally.{Counts}
use Rattle.defrag_rax.proofs.tally.count_table.Given as goal

abbrev pub invariant-loop-at : goal.invariant-loop-at
invariant-loop-at l = Counts (heap_slabs l.heap) (flat_map (element_nodes (heap_blocks l.heap)) (take l.at l.table.items)) l.initial.tally l.tally
