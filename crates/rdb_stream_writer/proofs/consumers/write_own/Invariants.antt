use Rattle.std.proofs.Common.{length}
use Rattle.stream_groups.specs.Groups.{own_ids}
use Rattle.rdb_stream_writer.proofs.Pendings.{Walk, own_entries, OwnAdds}
use Rattle.rdb_stream_writer.proofs.consumers.write_own.Given as goal

abbrev pub invariant-ids : goal.invariant-ids
invariant-ids g l = Walk (OwnAdds l.group.pending l.consumer (g.F.Shelf.seen l.fn.shelf) (g.F.Shelf.seen l.shelf) l.fn.pen l.pen) (own_entries l.group.pending l.consumer) l.above

abbrev pub decreases-ids : goal.decreases-ids
decreases-ids g l = length (own_ids l.group.pending l.consumer l.above)
