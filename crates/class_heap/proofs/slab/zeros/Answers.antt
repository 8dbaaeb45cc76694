use Rattle.std.proofs.lemmas.List.{take-replicate}
use Rattle.class_heap.proofs.slab.zeros.Goals as goal

pub returns : goal.returns
returns c = take-replicate _ _ _ c.requires
