use Rattle.std.proofs.Common.{◌≡◌, map, take}
use Rattle.stream_groups.specs.Groups.{changed}
use Rattle.stream_object.specs.Handing.{told, all_again}
use Rattle.stream_object.proofs.redelivering.count_all.Given as goal

abbrev pub invariant-loop-again : goal.invariant-loop-again
invariant-loop-again l = l.groups ≡ changed l.initial.groups l.name (all_again l.moment (map told (take l.again-index l.found)))
