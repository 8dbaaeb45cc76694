use Rattle.std.proofs.Common.{length}
use Rattle.std.specs.FinMap.{entries}
use Rattle.stream_groups.specs.Groups.{later}
use Rattle.rdb_stream_writer.proofs.Pendings.{Walk, PendingAdds}
use Rattle.rdb_stream_writer.proofs.groups.write_pendings.Given as goal

abbrev pub invariant-entries : goal.invariant-entries
invariant-entries g l = Walk (PendingAdds l.group.pending l.group.consumers (g.F.Shelf.seen l.fn.shelf) (g.F.Shelf.seen l.shelf) l.fn.pen l.pen) (entries l.group.pending) l.above

abbrev pub decreases-entries : goal.decreases-entries
decreases-entries g l = length (later l.above l.group.pending)
