use Rattle.std.proofs.Common.{◌+◌, ◌-◌, ◌/◌, ◌<◌, arith, subst}
use Rattle.blocks.specs.Slabs.{size_of}
use Rattle.class_heap.specs.Classes.{below_middle}
use Rattle.class_heap.proofs.class.class_of.Goals as goal

pub halve-preserved-then-size_in-len : goal.halve-preserved-then-size_in-len
halve-preserved-then-size_in-len c =
    let i = c.halve.invariant in
    let middle = c.halve.low + (c.halve.high - c.halve.low) / 2 in
    let within = i.within in
    let short : size_of middle < c.args.len = subst (λ n. n < c.args.len) c.size_in.ensures.size c.if-size_in-len.true in
    record { ordered = omega arith; within = within; below = below_middle c.args.len c.halve.low middle i.below (omega arith) short; holds = i.holds }
