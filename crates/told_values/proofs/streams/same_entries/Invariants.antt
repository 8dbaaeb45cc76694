use Rattle.std.proofs.Common.{◌≡◌, map, take}
use Rattle.stream_object.specs.Ranges.{taken}
use Rattle.told_values.proofs.streams.same_entries.Given as goal

abbrev pub invariant-loop-index : goal.invariant-loop-index
invariant-loop-index l = map taken (take l.index l.entries) ≡ map taken (take l.index l.other)
