use Rattle.std.proofs.Common.{◌≤◌, arith, sym, subst}
use Rattle.class_heap.specs.Live.{size_most}
use Rattle.class_heap.proofs.Parts.{sound_resized, resized_in}
use Rattle.class_heap.proofs.slab.Slab.resize.Goals as goal

pub overflow_cast-len : goal.overflow_cast-len
overflow_cast-len c =
    (let s = c.args.self.now in let m = size_most s.sound in let z = s.sound.sized in let q : c.args.len ≤ s.size = subst (λ n. c.args.len ≤ n) (sym z) c.requires.class.holds in
    omega (arith, m, q))

pub invariant_of-self : goal.invariant_of-self
invariant_of-self c = record { sound = sound_resized c.args.self.now.sound c.args.slot c.args.len c.requires.live c.requires.class }

pub returns-clause-resized : goal.returns-clause-resized
returns-clause-resized c = λ other. resized_in c.args.self.now.sound c.args.slot c.args.len c.requires.live c.requires.class other
