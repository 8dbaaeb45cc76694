use Rattle.std.proofs.Common.{◌≡◌, ◌++◌, Some, take}
use Rattle.stream_groups.specs.Groups.{ids_of, own_ids}
use Rattle.stream_groups.proofs.pendings.Pendings.ids_of.Given as goal

abbrev pub invariant-loop-left : goal.invariant-loop-left
invariant-loop-left l = record {
  so_far : l.ids.items ++ take l.left (own_ids l.self l.consumer (Some l.above)) ≡ ids_of l.self l.consumer l.fn.above l.limit;
}

abbrev pub decreases-loop-left : goal.decreases-loop-left
decreases-loop-left l = l.left
