use Rattle.std.proofs.Common.{rules}
use Rattle.rdb_parts.proofs.Penned.{lost_then}
use Rattle.rdb_stream_writer.proofs.Pendings.{pending_begins, pending_more, pending_shorter, pending_ends}
use Rattle.rdb_stream_writer.proofs.groups.write_pendings.Goals as goal

pub returns-in_err-write_pending-clause-writes : goal.returns-in_err-write_pending-clause-writes
returns-in_err-write_pending-clause-writes g c =
    let lost = lost_then _ _ _ c.args.pen.now c.entries.pen _ c.entries.invariant.holds.adds c.in_err-write_pending.ensures.writes in
    search (rules, lost)

pub entries-init : goal.entries-init
entries-init g c =
    let written = rw c.pending_len-count.ensures at c.in_ok-write_length.ensures in
    pending_begins c.args.group.now.pending c.args.group.now.consumers (g.F.Shelf.seen c.args.shelf.now) (g.F.Shelf.seen c.write_length.new.shelf) c.args.pen.now c.write_length.new.pen written

pub entries-smaller : goal.entries-smaller
entries-smaller g c =
    pending_shorter c.args.group.now.pending c.args.group.now.consumers (g.F.Shelf.seen c.args.shelf.now) (g.F.Shelf.seen c.entries.shelf) c.args.pen.now c.entries.pen c.entries.above c.entries.invariant c.in-Some.entry
    c.in-Some.ensures

pub entries-preserved : goal.entries-preserved
entries-preserved g c =
    pending_more c.args.group.now.pending c.args.group.now.consumers (g.F.Shelf.seen c.args.shelf.now) (g.F.Shelf.seen c.entries.shelf) c.args.pen.now c.entries.pen c.entries.above c.entries.invariant c.in-Some.entry
    c.in-Some.ensures (g.F.Shelf.seen c.write_pending.new.shelf) c.write_pending.new.pen c.in_ok-write_pending.ensures.writes c.in_ok-write_pending.ensures.id c.in_ok-write_pending.ensures.moment
    c.in_ok-write_pending.ensures.count

pub returns-clause-writes : goal.returns-clause-writes
returns-clause-writes g c =
    (pending_ends c.args.group.now.pending c.args.group.now.consumers (g.F.Shelf.seen c.args.shelf.now) (g.F.Shelf.seen c.entries.shelf) c.args.pen.now c.entries.pen c.entries.above c.entries.invariant c.in_default.ensures).0

pub returns-clause-fits : goal.returns-clause-fits
returns-clause-fits g c =
    (pending_ends c.args.group.now.pending c.args.group.now.consumers (g.F.Shelf.seen c.args.shelf.now) (g.F.Shelf.seen c.entries.shelf) c.args.pen.now c.entries.pen c.entries.above c.entries.invariant c.in_default.ensures).1
