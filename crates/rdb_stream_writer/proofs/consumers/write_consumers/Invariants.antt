use Rattle.std.proofs.Common.{length, ◌-◌}
use Rattle.std.specs.FinMap.{keys}
use Rattle.rdb_stream_writer.specs.Consumers.{consumer_word}
use Rattle.rdb_stream_writer.proofs.Places.{AddsTo}
use Rattle.rdb_stream_writer.proofs.consumers.write_consumers.Given as goal

abbrev pub invariant-names : goal.invariant-names
invariant-names g l =
    AddsTo (consumer_word l.moment l.group.pending) (keys l.group.consumers) (g.F.Shelf.seen l.fn.shelf) (g.F.Shelf.seen l.shelf) l.fn.pen l.pen l.index

abbrev pub decreases-names : goal.decreases-names
decreases-names g l = length (keys l.group.consumers) - l.index
