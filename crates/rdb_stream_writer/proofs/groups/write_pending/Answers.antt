use Rattle.std.proofs.Common.{rules}
use Rattle.rdb_parts.specs.Words.{length_word}
use Rattle.rdb_parts.proofs.Penned.{writes_then, lost_then}
use Rattle.rdb_stream_writer.specs.Ids.{id_word}
use Rattle.rdb_stream_writer.specs.Consumers.{moment_word}
use Rattle.rdb_stream_writer.proofs.groups.write_pending.Goals as goal

pub returns-in_err-write_moment-clause-writes : goal.returns-in_err-write_moment-clause-writes
returns-in_err-write_moment-clause-writes g c =
    let lost = lost_then _ _ _ c.args.pen.now c.write_id.new.pen _ c.in_ok-write_id.ensures.writes c.in_err-write_moment.ensures.writes in
    search (rules, lost)

pub returns-clause-writes : goal.returns-clause-writes
returns-clause-writes g c =
    let last = writes_then _ _ _ c.write_id.new.pen c.write_moment.new.pen c.write_length.new.pen (moment_word c.args.entry.moment) (length_word c.args.entry.count) c.write_length.result c.in_ok-write_moment.ensures.writes c.write_length.ensures in
    writes_then _ _ _ c.args.pen.now c.write_id.new.pen c.write_length.new.pen (id_word c.args.entry.id) _ c.write_length.result c.in_ok-write_id.ensures.writes last
