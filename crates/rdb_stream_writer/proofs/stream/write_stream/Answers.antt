use Rattle.std.proofs.Common.{rules}
use Rattle.std.specs.FinMap.{entries}
use Rattle.stream_object.specs.Streams.{nodes, stream_of}
use Rattle.rdb_parts.proofs.Penned.{writes_then, lost_then}
use Rattle.rdb_stream_writer.specs.Ids.{counted_by}
use Rattle.rdb_stream_writer.specs.Groups.{group_word}
use Rattle.rdb_stream_writer.specs.Nodes.{node_word}
use Rattle.rdb_stream_writer.specs.Streams.{marks_word}
use Rattle.rdb_stream_writer.proofs.SpelledStreams.{spells_ok}
use Rattle.rdb_stream_writer.proofs.stream.write_stream.Goals as goal

pub returns-in_err-write_marks-clause-writes : goal.returns-in_err-write_marks-clause-writes
returns-in_err-write_marks-clause-writes g c =
    let lost = lost_then _ _ _ c.args.pen.now c.write_nodes.new.pen _ c.in_ok-write_nodes.ensures c.in_err-write_marks.ensures.writes in
    search (rules, lost)

pub returns-clause-writes : goal.returns-clause-writes
returns-clause-writes g c =
    let m = g.B.BlockStore.blocks c.args.store.now in
    let value = stream_of m c.args.stream.now in
    let last =
    writes_then _ _ _ c.write_nodes.new.pen c.write_marks.new.pen c.write_groups.new.pen (marks_word value) (counted_by (group_word c.args.moment) (entries value.groups)) c.write_groups.result c.in_ok-write_marks.ensures.writes
    c.write_groups.ensures.writes in
    writes_then _ _ _ c.args.pen.now c.write_nodes.new.pen c.write_groups.new.pen (counted_by node_word (nodes m c.args.stream.now)) _ c.write_groups.result c.in_ok-write_nodes.ensures last

pub returns-clause-spells : goal.returns-clause-spells
returns-clause-spells g c =
    spells_ok (g.B.BlockStore.blocks c.args.store.now) c.args.stream.now c.args.moment c.write_groups.result c.requires.sound c.requires.fit c.write_marks.ensures.fits c.write_groups.ensures.few c.write_groups.ensures.fits
