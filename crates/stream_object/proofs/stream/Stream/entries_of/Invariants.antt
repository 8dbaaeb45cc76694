use Rattle.std.proofs.Common.{◌≡◌, map, take}
use Rattle.stream_object.specs.Handing.{told, with_entries}
use Rattle.stream_object.specs.Streams.{entries}
use Rattle.stream_object.proofs.stream.Stream.entries_of.Given as goal

abbrev pub invariant-loop-pair : goal.invariant-loop-pair
invariant-loop-pair g l = map told l.found.items ≡ with_entries (entries (g.B.BlockStore.blocks l.store) l.self) (take l.pair-index l.ids)
