use Rattle.class_heap.specs.Live.{used_least}
use Rattle.class_heap.proofs.entry.Entry.used_in.Goals as goal

pub returns-in-Classed-clause-most : goal.returns-in-Classed-clause-most
returns-in-Classed-clause-most c = (used_least c.in-Classed.slab.sound).1
