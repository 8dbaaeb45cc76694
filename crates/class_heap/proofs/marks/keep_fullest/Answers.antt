use Rattle.std.proofs.Common.{◌<◌, ◌+◌, arith, sym, subst, count_by}
use Rattle.class_heap.specs.Marks.{IsMarked, holds_at_least, uses}
use Rattle.class_heap.proofs.Keeping.{marked_none, few_slabs, marking_made, marked_made}
use Rattle.class_heap.proofs.marks.keep_fullest.Goals as goal

pub returns-then-needed-eq0-clause-marked : goal.returns-then-needed-eq0-clause-marked
returns-then-needed-eq0-clause-marked c = subst (λ n. IsMarked c.args.class n c.args.entries.now) (sym c.if-needed-eq0.true) (marked_none c.args.class c.args.entries.now c.requires.unmarked)

pub returns-then-filled-needed-clause-marking : goal.returns-then-filled-needed-clause-marking
returns-then-filled-needed-clause-marking c =
    marking_made c.args.class _ _ c.args.entries.now c.keep.new.entries c.keep.ensures.long c.keep.ensures.blocks c.keep.ensures.marked

pub returns-then-filled-needed-clause-marked : goal.returns-then-filled-needed-clause-marked
returns-then-filled-needed-clause-marked c = marked_made c.args.class 0 c.args.needed c.args.filled c.args.entries.now c.keep.new.entries c.requires.unmarked
    c.requires.enough c.requires.filled c.if-filled-needed.true c.keep.ensures.marked

pub threshold-least-requires-clause-few : goal.threshold-least-requires-clause-few
threshold-least-requires-clause-few c =
    (let z = few_slabs c.args.class c.args.entries.now in let some : 0 < c.args.needed = omega arith in
    subst (λ n. count_by (holds_at_least c.args.class (n + 1)) (uses c.args.entries.now) < c.args.needed) (sym c.slots_in.ensures.slots) (omega (arith, z, some)))

pub returns-clause-marking : goal.returns-clause-marking
returns-clause-marking c = marking_made c.args.class _ _ c.args.entries.now c.keep-2.new.entries c.keep-2.ensures.long c.keep-2.ensures.blocks c.keep-2.ensures.marked

pub returns-clause-marked : goal.returns-clause-marked
returns-clause-marked c = marked_made c.args.class c.threshold-least.result c.args.needed c.fuller-above.result c.args.entries.now c.keep-2.new.entries c.requires.unmarked
    c.threshold-least.ensures.enough c.fuller-above.ensures (let f = c.threshold-least.ensures.few in let e = c.fuller-above.ensures in omega (arith, f, e)) c.keep-2.ensures.marked
