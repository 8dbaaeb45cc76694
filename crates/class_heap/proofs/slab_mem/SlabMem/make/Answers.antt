use Rattle.std.proofs.Common.{◌∙◌}
use Rattle.class_heap.proofs.slab_mem.SlabMem.make.Goals as goal

pub returns : goal.returns
returns c = c.of.ensures ∙ c.in_ok-region.ensures.ok
