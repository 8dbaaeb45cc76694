use Rattle.std.proofs.Common.{◌≡◌, ◌∙◌, ◌+◌, ◌≤◌, None, Some, sym, subst, take, flat_map, get_or, arith, refl}
use Rattle.std.proofs.Math.Nat.{add-zero}
use Rattle.class_heap.specs.Heap.{heap_blocks, heap_slabs}
use Rattle.defrag_rax.specs.Owned.{element_nodes, tree_refs}
use Rattle.defrag_rax.specs.Tally.{Counts}
use Rattle.defrag_rax.proofs.Splitting.{nothing_behind, nothing_there}
use Rattle.defrag_rax.proofs.Tallies.{counts_again, counts_more, count_all, count_turn}
use Rattle.defrag_rax.proofs.tally.count_table.Goals as goal
use Rattle.defrag_rax.proofs.tally.count_table.Goals.{then-is_entry, else-is_entry}

pub loop-at-preserved : goal.loop-at-preserved
loop-at-preserved c =
    let h = heap_slabs c.args.heap.now in
    let m = heap_blocks c.args.heap.now in
    let g = element_nodes m in
    let items = c.args.table.now.items in
    let at = c.loop-at.at in
    let before = flat_map g (take at items) in
    let after = flat_map g (take (at + 1) items) in
    elim c.if-is_entry.branch [
      | then-is_entry w ↦
          (let value = w.entry.result.1.now in
          subst (Counts h after c.args.tally.now) (sym w.tally-is)
          (counts_more h before (tree_refs m value) after c.args.tally.now c.loop-at.tally w.count_value.new.tally
          (λ class. count_turn h g None refl class at items (Some (record { key = w.entry.result.0; hash = w.entry.ensures.hash; value = value })) w.entry.ensures.found)
          c.loop-at.invariant w.count_value.ensures))
      | else-is_entry w ↦
          (let none : get_or items at None ≡ None = nothing_there (get_or items at None) c.is_entry.result c.is_entry.ensures.1 w.if-is_entry.false in
          subst (Counts h after c.args.tally.now) (sym w.tally-is)
          (counts_again h before after c.args.tally.now c.loop-at.tally (λ class. count_turn h g None refl class at items None none ∙ add-zero _) c.loop-at.invariant))
    ]

pub returns : goal.returns
returns c =
    let h = heap_slabs c.args.heap.now in
    let g = element_nodes (heap_blocks c.args.heap.now) in
    let items = c.args.table.now.items in
    let end : c.top-at-end.result ≤ c.loop-at.at = omega arith in
    counts_again h (flat_map g (take c.loop-at.at items)) (flat_map g items) c.args.tally.now c.loop-at.tally
    (λ class. count_all h g None refl class c.loop-at.at items (nothing_behind c.args.table.now c.top-at-end.result c.loop-at.at end c.top-at-end.ensures.above)) c.loop-at.invariant
