use Rattle.std.proofs.Common.{[], ap}
use Rattle.byteorder.specs.Endian.{little_bytes}
use Rattle.resp_frames.specs.FaultLines.{fault_line}
use Rattle.serving.specs.Output.{pending_bytes}
use Rattle.sessions.proofs.Units.{unit_then, unit_stops}
use Rattle.sessions.proofs.unit.write_fault.Goals as goal

pub returns-in-Ok : goal.returns-in-Ok
returns-in-Ok g c =
    unit_then c.args.session c.fault_len.result (fault_line c.args.rule c.args.at) (ap (little_bytes 8) c.fault_len.ensures) _ _ _ (pending_bytes c.args.pending.now) _ _ _
    c.head_of-head.ensures c.write_line.result c.in-Ok.ensures c.write_line.ensures

pub returns-in-Err : goal.returns-in-Err
returns-in-Err g c =
    unit_stops c.args.session c.fault_len.result (fault_line c.args.rule c.args.at) (ap (little_bytes 8) c.fault_len.ensures)
    (g.O.Sink.seen c.args.output.now) (g.O.Sink.seen c.write_bytes.new.output) (g.O.Sink.seen c.write_bytes.new.output) (pending_bytes c.args.pending.now) [] [] _ c.head_of-head.ensures c.in-Err.ensures
