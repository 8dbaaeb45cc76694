use Rattle.std.proofs.Common.{◌∙◌, ℕ, length, ap}
use Rattle.std.proofs.lemmas.List.{length-replicate}
use Rattle.class_heap.proofs.slab.Leftovers.take.Goals as goal

pub invariant_of-result : goal.invariant_of-result
invariant_of-result c = record { long = ap length c.in_ok-mem-in-None.ensures ∙ length-replicate {A = ℕ} 65536 0 }
