use Rattle.std.proofs.Common.{◌≡◌, ◌+◌, length, take}
use Rattle.std.specs.Prelude.{sum_by}
use Rattle.stream_node.specs.Room.{pair_bytes}
use Rattle.stream_node.proofs.room.has_room.Given as goal

abbrev pub invariant-loop-index : goal.invariant-loop-index
invariant-loop-index l = l.size ≡ length l.pack + 640 + sum_by pair_bytes (take l.index l.pairs)
