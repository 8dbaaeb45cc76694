use Rattle.class_heap.proofs.Heaps.{first_vacant}
use Rattle.class_heap.proofs.heap.ClassHeap.vacant.Goals as goal

pub returns-in-Some-clause-vacant : goal.returns-in-Some-clause-vacant
returns-in-Some-clause-vacant c = first_vacant c.args.self.now.sound c.in-Some.number c.in-Some.ensures.least
