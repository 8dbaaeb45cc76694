use Rattle.std.proofs.Common.{take, false}
use Rattle.sessions.specs.Slots.{HasCut}
use Rattle.sessions.proofs.slot.any_cut.Given as goal

abbrev pub invariant-loop-slot : goal.invariant-loop-slot
invariant-loop-slot l = HasCut (take l.slot-index l.slots) false
