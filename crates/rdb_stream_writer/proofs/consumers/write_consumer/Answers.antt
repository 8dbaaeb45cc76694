use Rattle.std.proofs.Common.{rules, None}
use Rattle.stream_groups.specs.Groups.{own_ids}
use Rattle.rdb_parts.specs.Words.{string_word}
use Rattle.rdb_parts.proofs.Penned.{writes_then, lost_then}
use Rattle.rdb_stream_writer.specs.Ids.{id_word, counted_by}
use Rattle.rdb_stream_writer.specs.Consumers.{moment_word}
use Rattle.rdb_stream_writer.proofs.consumers.write_consumer.Goals as goal

pub returns-in_err-write_moment : goal.returns-in_err-write_moment
returns-in_err-write_moment g c =
    let lost = lost_then _ _ _ c.args.pen.now c.write_string.new.pen _ c.in_ok-write_string.ensures c.in_err-write_moment.ensures.writes in
    search (rules, lost)

pub returns-in_err-write_moment-2 : goal.returns-in_err-write_moment-2
returns-in_err-write_moment-2 g c =
    let lost = lost_then _ _ _ c.args.pen.now c.write_string.new.pen _ c.in_ok-write_string.ensures
    (lost_then _ _ _ c.write_string.new.pen c.write_moment.new.pen _ c.in_ok-write_moment.ensures.writes c.in_err-write_moment-2.ensures.writes) in
    search (rules, lost)

pub returns : goal.returns
returns g c =
    let word = moment_word c.args.moment in
    let ids = counted_by id_word (own_ids c.args.group.now.pending c.args.consumer.now None) in
    let last = writes_then _ _ _ c.write_moment.new.pen c.write_moment-2.new.pen c.write_own.new.pen word ids c.write_own.result c.in_ok-write_moment-2.ensures.writes c.write_own.ensures in
    let next = writes_then _ _ _ c.write_string.new.pen c.write_moment.new.pen c.write_own.new.pen word _ c.write_own.result c.in_ok-write_moment.ensures.writes last in
    writes_then _ _ _ c.args.pen.now c.write_string.new.pen c.write_own.new.pen (string_word c.args.consumer.now) _ c.write_own.result c.in_ok-write_string.ensures next
