use Rattle.std.proofs.Common.{arith}
use Rattle.class_heap.proofs.Parts.{sound_given, used_pos}
use Rattle.class_heap.proofs.slab.Slab.give_back.Goals as goal

pub overflow_sub-self : goal.overflow_sub-self
overflow_sub-self c = (let p = used_pos c.args.self.now.sound c.args.slot c.requires in omega (arith, p))

pub invariant_of-self : goal.invariant_of-self
invariant_of-self c = record { sound = sound_given c.args.self.now.sound c.args.slot c.requires }

pub returns-clause-fewer : goal.returns-clause-fewer
returns-clause-fewer c = (let p = used_pos c.args.self.now.sound c.args.slot c.requires in omega (arith, p))
