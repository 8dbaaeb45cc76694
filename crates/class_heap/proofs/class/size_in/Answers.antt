use Rattle.std.proofs.Common.{◌≤◌, subst, sym}
use Rattle.class_heap.specs.Classes.{size_read, size_bounds}
use Rattle.class_heap.proofs.class.size_in.Goals as goal

pub returns-clause-size : goal.returns-clause-size
returns-clause-size c = size_read c.args.class 0 c.requires

pub returns-clause-least : goal.returns-clause-least
returns-clause-least c = subst (λ n. 8 ≤ n) (sym (size_read c.args.class 0 c.requires)) (size_bounds c.args.class c.requires).0

pub returns-clause-most : goal.returns-clause-most
returns-clause-most c = subst (λ n. n ≤ 14336) (sym (size_read c.args.class 0 c.requires)) (size_bounds c.args.class c.requires).1
