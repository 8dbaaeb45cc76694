use Rattle.std.proofs.Common.{arith}
use Rattle.class_heap.proofs.marks.used_of.Goals as goal

pub overflow_add-used : goal.overflow_add-used
overflow_add-used c = (let i = c.add.invariant in let m = i.most in let u = c.used_in-used.ensures.most in let f = c.requires in omega (arith, m, u, f))
