use Rattle.std.proofs.Common.{length, take, ◌-◌}
use Rattle.std.specs.List.{AllByRecursion}
use Rattle.std.specs.FinMap.{entries}
use Rattle.rdb_stream_writer.specs.Groups.{group_word, IsStoredGroup}
use Rattle.rdb_stream_writer.proofs.Places.{AddsTo}
use Rattle.rdb_stream_writer.proofs.groups.write_groups.Given as goal

abbrev pub invariant-each : goal.invariant-each
invariant-each g l = record {
  adds : AddsTo (group_word l.moment) (entries l.stream.groups) (g.F.Shelf.seen l.fn.shelf) (g.F.Shelf.seen l.shelf) l.fn.pen l.pen l.index;
  stored : AllByRecursion IsStoredGroup (take l.index (entries l.stream.groups));
}

abbrev pub decreases-each : goal.decreases-each
decreases-each g l = length (entries l.stream.groups) - l.index
