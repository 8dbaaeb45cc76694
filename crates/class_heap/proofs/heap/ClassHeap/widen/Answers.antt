use Rattle.std.proofs.Common.{refl}
use Rattle.class_heap.proofs.Placings.{sound_wider}
use Rattle.class_heap.proofs.heap.ClassHeap.widen.Goals as goal

pub invariant_of-self-2 : goal.invariant_of-self-2
invariant_of-self-2 c = record
    { sound = sound_wider c.args.self.now.sound c.extend.new.entries.items c.in_ok-wider.wider _ c.extend.ensures.same c.in_ok-extend.ensures.long refl c.in_ok-wider.ensures.labels }
