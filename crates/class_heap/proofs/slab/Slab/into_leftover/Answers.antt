use Rattle.class_heap.proofs.slab.Slab.into_leftover.Goals as goal

pub invariant_of-result : goal.invariant_of-result
invariant_of-result c = record { long = c.args.self.sound.long }
