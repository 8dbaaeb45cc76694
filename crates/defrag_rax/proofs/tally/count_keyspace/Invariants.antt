use Rattle.std.proofs.Common.{take, flat_map}
use Rattle.class_heap.specs.Heap.{heap_blocks, heap_slabs}
use Rattle.held.specs.declared.databases.Base.{Base}
use Rattle.keyspace.specs.declared.value.Value.{Value}
use Rattle.defrag_rax.specs.Owned.{table_nodes}
use Rattle.defrag_rax.specs.Tally.{Counts}
use Rattle.defrag_rax.proofs.tally.count_keyspace.Given as goal

abbrev pub invariant-loop-db : goal.invariant-loop-db
invariant-loop-db l =
    Counts (heap_slabs l.keyspace.store) (flat_map (λ (base : Base Value). table_nodes (heap_blocks l.keyspace.store) base.keys) (take l.db l.keyspace.bases.bases)) l.initial.tally l.tally
