use Rattle.std.proofs.Common.{◌≡◌, map, take}
use Rattle.told_values.specs.Reading.{group_listed}
use Rattle.told_values.proofs.groups.same_listed.Given as goal

abbrev pub invariant-loop-index : goal.invariant-loop-index
invariant-loop-index l = map group_listed (take l.index l.groups) ≡ map group_listed (take l.index l.other)
