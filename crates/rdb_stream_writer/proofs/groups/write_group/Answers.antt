use Rattle.std.proofs.Common.{rules, subst}
use Rattle.std.specs.FinMap.{entries, keys}
use Rattle.rdb_parts.specs.Words.{length_word, string_word}
use Rattle.rdb_parts.proofs.Penned.{writes_then, lost_then}
use Rattle.rdb_stream_writer.specs.Ids.{lengths_word, counted_by, IsStoredId}
use Rattle.rdb_stream_writer.specs.Consumers.{consumer_word}
use Rattle.rdb_stream_writer.specs.Groups.{pending_word, IsStoredGroup}
use Rattle.rdb_stream_writer.proofs.Places.{ok_held}
use Rattle.rdb_stream_writer.proofs.groups.write_group.Goals as goal

pub returns-in_err-write_lengths-clause-writes : goal.returns-in_err-write_lengths-clause-writes
returns-in_err-write_lengths-clause-writes g c =
    let lost = lost_then _ _ _ c.args.pen.now c.write_string.new.pen _ c.in_ok-write_string.ensures c.in_err-write_lengths.ensures.writes in
    search (rules, lost)

pub returns-in_err-write_length-clause-writes : goal.returns-in_err-write_length-clause-writes
returns-in_err-write_length-clause-writes g c =
    let lost = lost_then _ _ _ c.args.pen.now c.write_string.new.pen _ c.in_ok-write_string.ensures
    (lost_then _ _ _ c.write_string.new.pen c.write_lengths.new.pen _ c.in_ok-write_lengths.ensures.writes c.in_err-write_length.ensures) in
    search (rules, lost)

pub returns-in_err-write_pendings-clause-writes : goal.returns-in_err-write_pendings-clause-writes
returns-in_err-write_pendings-clause-writes g c =
    let lost = lost_then _ _ _ c.args.pen.now c.write_string.new.pen _ c.in_ok-write_string.ensures
    (lost_then _ _ _ c.write_string.new.pen c.write_lengths.new.pen _ c.in_ok-write_lengths.ensures.writes
    (lost_then _ _ _ c.write_lengths.new.pen c.write_length.new.pen _ c.in_ok-write_length.ensures c.in_err-write_pendings.ensures.writes)) in
    search (rules, lost)

pub returns-clause-writes : goal.returns-clause-writes
returns-clause-writes g c =
    let group = c.args.group.now in
    let waiting = counted_by pending_word (entries group.pending) in
    let owners = counted_by (consumer_word c.args.moment group.pending) (keys group.consumers) in
    let result = c.write_consumers.result in
    let end = c.write_consumers.new.pen in
    let last = rw c.last.ensures.value at c.in_ok-write_lengths.ensures.writes in
    let fourth = writes_then _ _ _ c.write_length.new.pen c.write_pendings.new.pen end waiting owners result c.in_ok-write_pendings.ensures.writes c.write_consumers.ensures.writes in
    let third = writes_then _ _ _ c.write_lengths.new.pen c.write_length.new.pen end (length_word 0) _ result c.in_ok-write_length.ensures fourth in
    let second = writes_then _ _ _ c.write_string.new.pen c.write_lengths.new.pen end (lengths_word group.last) _ result last third in
    writes_then _ _ _ c.args.pen.now c.write_string.new.pen end (string_word c.args.name.now) _ result c.in_ok-write_string.ensures second

pub returns-clause-fits : goal.returns-clause-fits
returns-clause-fits g c =
    let stored : IsStoredGroup (c.args.name.now, c.args.group.now) = record {
      last = subst IsStoredId c.last.ensures.value c.write_lengths.ensures.fits;
      few_pending = c.write_pendings.ensures.few;
      few_consumers = c.write_consumers.ensures.fits;
      pending = c.in_ok-write_pendings.ensures.fits;
      owned = c.last.ensures.owned;
    } in
    ok_held c.write_consumers.result stored
