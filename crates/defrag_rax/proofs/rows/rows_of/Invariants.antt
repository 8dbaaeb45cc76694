use Rattle.std.proofs.Common.{◌≡◌, List, map}
use Rattle.std.specs.List.{filter, range_with_len}
use Rattle.blocks.specs.declared.BlockRef.{BlockRef}
use Rattle.class_heap.specs.Heap.{heap_slabs}
use Rattle.defrag_rax.specs.Rows.{audit_row, has_slab, Splits}
use Rattle.defrag_rax.proofs.rows.rows_of.Given as goal

abbrev pub invariant-loop-class : goal.invariant-loop-class
invariant-loop-class l =
    (tree other : List BlockRef) → Splits (heap_slabs l.heap) l.counts tree other
    → l.rows.items ≡ filter has_slab (map (audit_row (heap_slabs l.heap) tree other) (range_with_len 0 l.class))
