use Rattle.std.proofs.Common.{◌∙◌, ◌+◌, [], ap, sym, refl}
use Rattle.class_heap.specs.Heap.{heap_blocks, heap_slabs}
use Rattle.rax_packed.specs.Maps.{marks_of, refs_of}
use Rattle.slab_counts.specs.Counts.{in_class, count_in}
use Rattle.stream_node.specs.Ids.{id_number}
use Rattle.defrag_rax.proofs.Tallies.{counts_none, counts_more, counts_again}
use Rattle.defrag_rax.proofs.Ways.{nodes_below, next_way, none_below, end_missed, end_last}
use Rattle.defrag_rax.proofs.tally.count_stream.Goals as goal

pub keys-init : goal.keys-init
keys-init c =
    let h = heap_slabs c.args.heap.now in
    let marks = marks_of (heap_blocks c.args.heap.now) c.args.stream.now.tree in
    counts_again h [] (nodes_below marks 0) c.args.tally.now c.args.tally.now (λ class. ap (count_in h class) (none_below marks)) (counts_none h c.args.tally.now (λ class lt. c.fits-tally class))

pub keys-preserved : goal.keys-preserved
keys-preserved c =
    let h = heap_slabs c.args.heap.now in
    let m = heap_blocks c.args.heap.now in
    let tree = c.args.stream.now.tree in
    let marks = marks_of m tree in
    let found = c.in-Some.ensures.some in
    counts_more h (nodes_below marks (id_number c.keys.from)) c.nodes_of.result (nodes_below marks (id_number c.in-Some-next.next)) c.args.tally.now c.keys.tally c.count_path.new.tally
    (λ class.
    next_way (in_class h class) m tree c.keys.from c.in-Some.key found.0 (id_number c.in-Some-next.next) c.nodes_of.result c.requires.parts found.1 found.2
    c.in-Some-next.ensures.some c.nodes_of.ensures)
    c.keys.invariant c.count_path.ensures

pub returns-in-None : goal.returns-in-None
returns-in-None c =
    let h = heap_slabs c.args.heap.now in
    let m = heap_blocks c.args.heap.now in
    let tree = c.args.stream.now.tree in
    let marks = marks_of m tree in
    let found = c.in-Some.ensures.some in
    let n = id_number c.in-Some.key in
    counts_more h (nodes_below marks (id_number c.keys.from)) c.nodes_of.result (refs_of m tree) c.args.tally.now c.keys.tally c.count_path.new.tally
    (λ class.
    ap (count_in h class) (sym (end_last m tree n c.in-None.ensures.none c.requires.parts))
    ∙ next_way (in_class h class) m tree c.keys.from c.in-Some.key found.0 (n + 1) c.nodes_of.result c.requires.parts found.1 found.2
    refl c.nodes_of.ensures)
    c.keys.invariant c.count_path.ensures

pub returns : goal.returns
returns c =
    let h = heap_slabs c.args.heap.now in
    let m = heap_blocks c.args.heap.now in
    let tree = c.args.stream.now.tree in
    counts_again h (nodes_below (marks_of m tree) (id_number c.keys.from)) (refs_of m tree) c.args.tally.now c.keys.tally
    (λ class. ap (count_in h class) (sym (end_missed m tree c.keys.from c.requires.parts c.in_default.ensures.none))) c.keys.invariant
