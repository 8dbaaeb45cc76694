use Rattle.cmd_streams.proofs.Looking.{found_other}
use Rattle.cmd_streams.proofs.AtKeys.{stream_item, not_stream}
use Rattle.cmd_streams.proofs.changing.stream_sought.Goals as goal

pub returns-in-Stream : goal.returns-in-Stream
returns-in-Stream g c =
    let there = rw c.in-Some.is at c.requires.sees.there in
    stream_item c.args.keyspace.now.bases _ c.args.at.now c.args.key.now c.in-Some.item c.value_at-value.result.now c.in-Stream.field-0 c.in-Stream.is there
    (c.value_at-value.ensures c.args.key.now c.args.at.now.moment there)

pub returns-in_default : goal.returns-in_default
returns-in_default g c =
    found_other _ _ c.args.at.now c.args.key.now c.value_at-value.result.now (not_stream c.value_at-value.result.now c.in_default.not-Stream)
    (c.value_at-value.ensures c.args.key.now c.args.at.now.moment (rw c.in-Some.is at c.requires.sees.there))
