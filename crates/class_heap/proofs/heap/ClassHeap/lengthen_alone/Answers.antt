use Rattle.std.proofs.Common.{arith, ap, length}
use Rattle.blocks.specs.Blocks.{bytes_at}
use Rattle.class_heap.proofs.Lengthening.{lengthens_from}
use Rattle.class_heap.proofs.heap.ClassHeap.lengthen_alone.Goals as goal

pub lengthen_reserved-requires-clause-longer : goal.lengthen_reserved-requires-clause-longer
lengthen_reserved-requires-clause-longer c = omega (arith, ap (λ m. length (bytes_at m c.args.at)) c.reserve_alone.ensures.blocks, c.requires.longer)

pub returns-clause-lengthened : goal.returns-clause-lengthened
returns-clause-lengthened c = lengthens_from c.args.self.now c.reserve_alone.new.self c.lengthen_reserved.new.self c.args.at c.args.len c.lengthen_reserved.result
    c.reserve_alone.ensures.blocks c.reserve_alone.ensures.slabs c.lengthen_reserved.ensures.lengthened
