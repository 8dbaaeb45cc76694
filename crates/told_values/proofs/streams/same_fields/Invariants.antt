use Rattle.std.proofs.Common.{◌≡◌, take}
use Rattle.told_values.proofs.streams.same_fields.Given as goal

abbrev pub invariant-loop-index : goal.invariant-loop-index
invariant-loop-index l = take l.index l.pairs ≡ take l.index l.other
