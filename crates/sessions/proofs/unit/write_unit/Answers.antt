use Rattle.std.proofs.Common.{[], length, ap, ◌∙◌}
use Rattle.byteorder.specs.Endian.{little_bytes}
use Rattle.plain_world.specs.Spelling.{spelling}
use Rattle.serving.specs.Output.{pending_bytes}
use Rattle.sessions.proofs.Units.{eight_bytes, unit_then, unit_stops}
use Rattle.sessions.proofs.unit.write_unit.Goals as goal

pub returns-in-Ok : goal.returns-in-Ok
returns-in-Ok g c =
    unit_then c.args.session c.spelled_len.result (spelling c.args.reply.now) (ap (little_bytes 8) c.spelled_len.ensures ∙ eight_bytes (length (spelling c.args.reply.now))) _ _ _
    (pending_bytes c.args.pending.now) _ _ _ c.head_of-head.ensures c.write_parts.result c.in-Ok.ensures c.write_parts.ensures

pub returns-in-Err : goal.returns-in-Err
returns-in-Err g c =
    unit_stops c.args.session c.spelled_len.result (spelling c.args.reply.now) (ap (little_bytes 8) c.spelled_len.ensures ∙ eight_bytes (length (spelling c.args.reply.now)))
    (g.O.Sink.seen c.args.output.now) (g.O.Sink.seen c.write_bytes.new.output) (g.O.Sink.seen c.write_bytes.new.output) (pending_bytes c.args.pending.now) [] [] _ c.head_of-head.ensures c.in-Err.ensures
