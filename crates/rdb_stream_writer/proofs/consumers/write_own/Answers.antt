use Rattle.std.proofs.Common.{rules, sym, ◌∙◌}
use Rattle.rdb_parts.proofs.Penned.{lost_then}
use Rattle.rdb_stream_writer.proofs.Pendings.{own_more, own_shorter, own_ends}
use Rattle.rdb_stream_writer.proofs.consumers.write_own.Goals as goal

pub returns-in_err-write_id : goal.returns-in_err-write_id
returns-in_err-write_id g c =
    let lost = lost_then _ _ _ c.args.pen.now c.ids.pen _ c.ids.invariant.holds c.in_err-write_id.ensures.writes in
    search (rules, lost)

pub ids-smaller : goal.ids-smaller
ids-smaller g c =
    own_shorter c.args.group.now.pending c.args.consumer.now (g.F.Shelf.seen c.args.shelf.now) (g.F.Shelf.seen c.ids.shelf) c.args.pen.now c.ids.pen c.ids.above c.ids.invariant c.in-Some.id
    (sym c.in-Some.is ∙ c.own_after.ensures)

pub ids-preserved : goal.ids-preserved
ids-preserved g c =
    own_more c.args.group.now.pending c.args.consumer.now (g.F.Shelf.seen c.args.shelf.now) (g.F.Shelf.seen c.ids.shelf) c.args.pen.now c.ids.pen c.ids.above c.ids.invariant c.in-Some.id
    (sym c.in-Some.is ∙ c.own_after.ensures) (g.F.Shelf.seen c.write_id.new.shelf) c.write_id.new.pen c.in_ok-write_id.ensures.writes

pub returns : goal.returns
returns g c =
    own_ends c.args.group.now.pending c.args.consumer.now (g.F.Shelf.seen c.args.shelf.now) (g.F.Shelf.seen c.ids.shelf) c.args.pen.now c.ids.pen c.ids.above c.ids.invariant
    (sym c.in_default.is ∙ c.own_after.ensures)
