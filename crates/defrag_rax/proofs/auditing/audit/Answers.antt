use Rattle.std.proofs.Common.{◌≡◌, ◌+◌, ◌-◌, ◌^◌, ◌≤◌, ℕ, List, min, arith}
use Rattle.std.specs.Prelude.{slice_index}
use Rattle.class_heap.specs.Heap.{heap_blocks, heap_slabs}
use Rattle.class_heap.specs.Laws.{heap_sound}
use Rattle.defrag_rax.specs.Owned.{tree_nodes, other_blocks}
use Rattle.slab_counts.specs.Counts.{count_in}
use Rattle.defrag_rax.proofs.Tallies.{counted_anew}
use Rattle.defrag_rax.proofs.Splitting.{used_split}
use Rattle.defrag_rax.proofs.auditing.audit.Goals as goal

-- a count that is cut isn't above the whole
few : (class : ℕ) (counts : List ℕ) (tree other : ℕ) {used : ℕ} → slice_index counts class ≡ min (2 ^ 64 - 1) tree → tree + other ≡ used → slice_index counts class ≤ used
few class counts tree other is all = omega (arith, is, all)

pub rows_of-requires : goal.rows_of-requires
rows_of-requires c =
    let k = c.args.keyspace.now in
    let m = heap_blocks k.store in
    let h = heap_slabs k.store in
    record {
      few = λ class lt. few class c.count_keyspace.new.tally (count_in h class (tree_nodes k.bases m)) (count_in h class (other_blocks k.bases m))
          (counted_anew h (tree_nodes k.bases m) c.count_keyspace.new.tally c.count_keyspace.ensures class lt) (used_split m h k.bases (heap_sound k.store.sound) c.requires class);
    }

pub returns-clause-rows : goal.returns-clause-rows
returns-clause-rows c =
    let k = c.args.keyspace.now in
    let m = heap_blocks k.store in
    let h = heap_slabs k.store in
    c.rows_of.ensures (tree_nodes k.bases m) (other_blocks k.bases m) (record { counted = counted_anew h (tree_nodes k.bases m) c.count_keyspace.new.tally c.count_keyspace.ensures; all = used_split m h k.bases (heap_sound k.store.sound) c.requires })

pub returns-clause-used : goal.returns-clause-used
returns-clause-used c = let k = c.args.keyspace.now in used_split (heap_blocks k.store) (heap_slabs k.store) k.bases (heap_sound k.store.sound) c.requires
