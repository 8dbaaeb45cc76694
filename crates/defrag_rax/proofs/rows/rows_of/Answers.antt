use Rattle.std.proofs.Common.{◌≡◌, ℕ, map, subst, arith}
use Rattle.std.specs.List.{filter, range_with_len}
use Rattle.class_heap.specs.Heap.{heap_slabs}
use Rattle.defrag_rax.specs.Rows.{audit_row, has_slab}
use Rattle.defrag_rax.proofs.Told.{looked_at}
use Rattle.defrag_rax.proofs.rows.rows_of.Goals as goal

pub loop-class-preserved : goal.loop-class-preserved
loop-class-preserved c tree other s =
    let u = c.row_of.ensures in
    looked_at (heap_slabs c.args.heap.now) c.args.counts.now tree other c.loop-class.class c.loop-class.rows.items c.push_row.new.rows.items c.row_of.result c.loop-class-test.true s
    (record { size = u.size; slabs = u.slabs; needed = u.needed; tree = u.tree; other = u.other; fits = u.fits }) c.in_ok-push_row.ensures (c.loop-class.invariant tree other s)

pub returns : goal.returns
returns c tree other s =
    let P : ℕ → Type 0 = λ n. c.loop-class.rows.items ≡ filter has_slab (map (audit_row (heap_slabs c.args.heap.now) tree other) (range_with_len 0 n)) in
    let all : c.loop-class.class ≡ 36 = omega arith in
    subst P all (c.loop-class.invariant tree other s)
