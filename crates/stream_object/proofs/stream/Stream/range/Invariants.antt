use Rattle.std.proofs.Common.{◌≡◌, ◌≤◌, ◌++◌, length, map, take}
use Rattle.stream_object.specs.Ranges.{taken, wanted_in, ahead, steps_left, range_of}
use Rattle.stream_object.specs.Streams.{nodes, stream_of}
use Rattle.stream_object.proofs.stream.Stream.range.Given as goal

abbrev pub invariant-loop-next : goal.invariant-loop-next
invariant-loop-next g l = record {
  same : take l.limit (map taken l.found.items ++ wanted_in l.wanted (ahead l.back l.next (nodes (g.B.BlockStore.blocks l.store) l.self)))
      ≡ range_of (stream_of (g.B.BlockStore.blocks l.store) l.self) l.fn.from l.fn.to l.back l.limit;
  within : length l.found.items ≤ l.limit;
}

abbrev pub decreases-loop-next : goal.decreases-loop-next
decreases-loop-next g l = steps_left l.back l.next (nodes (g.B.BlockStore.blocks l.store) l.self)
