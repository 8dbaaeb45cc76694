use Rattle.collection_walk.specs.Marks.{IsCalm}
use Rattle.set_object.proofs.relocating.item_waits.Given as goal

abbrev pub invariant-loop-at : goal.invariant-loop-at
invariant-loop-at g l = IsCalm (g.B.BlockStore.heap l.store) l.table l.fn.part.start l.at
