use Rattle.std.proofs.Common.{arith}
use Rattle.class_heap.specs.Classes.{size_read}
use Rattle.class_heap.proofs.Descent.{few_numbers}
use Rattle.class_heap.proofs.heap.ClassHeapBlockStore.use_of.Goals as goal

pub used_of-requires : goal.used_of-requires
used_of-requires c = (let s = c.args.self.now in let d = s.directory in let f = few_numbers d.bound _ d.nodes.items d.sound in let b = s.sound.bound in omega (arith, f, b))

pub returns-clause-size : goal.returns-clause-size
returns-clause-size c = size_read c.args.class 0 c.requires
