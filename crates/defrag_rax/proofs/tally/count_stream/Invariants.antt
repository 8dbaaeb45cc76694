use Rattle.std.proofs.Common.{◌-◌, ◌^◌}
use Rattle.class_heap.specs.Heap.{heap_blocks, heap_slabs}
use Rattle.rax_packed.specs.Maps.{marks_of}
use Rattle.stream_node.specs.Ids.{id_number}
use Rattle.defrag_rax.specs.Tally.{Counts}
use Rattle.defrag_rax.proofs.Ways.{nodes_below}
use Rattle.defrag_rax.proofs.tally.count_stream.Given as goal

abbrev pub invariant-keys : goal.invariant-keys
invariant-keys l = Counts (heap_slabs l.heap) (nodes_below (marks_of (heap_blocks l.heap) l.stream.tree) (id_number l.from)) l.initial.tally l.tally

abbrev pub decreases-keys : goal.decreases-keys
decreases-keys l = 2 ^ 128 - id_number l.from
