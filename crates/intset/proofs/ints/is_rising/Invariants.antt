use Rattle.intset.specs.Intset.{packed_numbers}
use Rattle.intset.specs.Places.{RisesBelow}
use Rattle.intset.proofs.ints.is_rising.Given as goal

abbrev pub invariant-loop-index : goal.invariant-loop-index
invariant-loop-index l = RisesBelow (packed_numbers l.width l.count l.packed) l.index
