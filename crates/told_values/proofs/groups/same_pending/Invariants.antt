use Rattle.std.proofs.Common.{◌≡◌, map, take}
use Rattle.told_values.specs.Told.{pending_told}
use Rattle.told_values.proofs.groups.same_pending.Given as goal

abbrev pub invariant-loop-index : goal.invariant-loop-index
invariant-loop-index l = map pending_told (take l.index l.pending) ≡ map pending_told (take l.index l.other)
