use Rattle.std.proofs.Common.{rules}
use Rattle.stream_object.specs.Streams.{pair_of}
use Rattle.rdb_parts.specs.Words.{length_word}
use Rattle.rdb_parts.proofs.Penned.{writes_then, lost_then}
use Rattle.rdb_stream_writer.specs.Ids.{lengths_word}
use Rattle.rdb_stream_writer.proofs.marks.write_numbers.Goals as goal

pub returns-in_err-write_lengths-clause-writes : goal.returns-in_err-write_lengths-clause-writes
returns-in_err-write_lengths-clause-writes g c =
    let lost = lost_then _ _ _ c.args.pen.now c.write_length.new.pen _ c.in_ok-write_length.ensures c.in_err-write_lengths.ensures.writes in
    search (rules, lost)

pub returns-in_err-write_lengths-2-clause-writes : goal.returns-in_err-write_lengths-2-clause-writes
returns-in_err-write_lengths-2-clause-writes g c =
    let lost = lost_then _ _ _ c.args.pen.now c.write_length.new.pen _ c.in_ok-write_length.ensures
    (lost_then _ _ _ c.write_length.new.pen c.write_lengths.new.pen _ c.in_ok-write_lengths.ensures.writes c.in_err-write_lengths-2.ensures.writes) in
    search (rules, lost)

pub returns-in_err-write_lengths-3-clause-writes : goal.returns-in_err-write_lengths-3-clause-writes
returns-in_err-write_lengths-3-clause-writes g c =
    let lost = lost_then _ _ _ c.args.pen.now c.write_length.new.pen _ c.in_ok-write_length.ensures
    (lost_then _ _ _ c.write_length.new.pen c.write_lengths.new.pen _ c.in_ok-write_lengths.ensures.writes
    (lost_then _ _ _ c.write_lengths.new.pen c.write_lengths-2.new.pen _ c.in_ok-write_lengths-2.ensures.writes c.in_err-write_lengths-3.ensures.writes)) in
    search (rules, lost)

pub returns-clause-writes : goal.returns-clause-writes
returns-clause-writes g c =
    let result = c.write_length-2.result in
    let end = c.write_length-2.new.pen in
    let fourth =
    writes_then _ _ _ c.write_lengths-2.new.pen c.write_lengths-3.new.pen end (lengths_word (pair_of c.args.deleted)) (length_word c.args.added) result c.in_ok-write_lengths-3.ensures.writes c.write_length-2.ensures in
    let third = writes_then _ _ _ c.write_lengths.new.pen c.write_lengths-2.new.pen end (lengths_word (pair_of c.args.first)) _ result c.in_ok-write_lengths-2.ensures.writes fourth in
    let second = writes_then _ _ _ c.write_length.new.pen c.write_lengths.new.pen end (lengths_word (pair_of c.args.last)) _ result c.in_ok-write_lengths.ensures.writes third in
    writes_then _ _ _ c.args.pen.now c.write_length.new.pen end (length_word c.args.count) _ result c.in_ok-write_length.ensures second
