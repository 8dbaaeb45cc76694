use Rattle.intset.specs.Intset.{numbers_of}
use Rattle.intset.specs.Places.{IsCopied}
use Rattle.intset.proofs.edits.widened.Given as goal

abbrev pub invariant-loop-index : goal.invariant-loop-index
invariant-loop-index l = IsCopied l.wide.items l.width (numbers_of l.set) l.index
