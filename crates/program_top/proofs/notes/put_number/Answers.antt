use Rattle.std.specs.Fmt.{decimal}
use Rattle.resp_frames.proofs.Putting.{puts_then, fault_stops}
use Rattle.program_top.proofs.notes.put_number.Goals as goal

pub returns-in-Ok : goal.returns-in-Ok
returns-in-Ok g c = puts_then _ _ _ c.args.text.now (decimal c.args.number) c.put_all-in-Ok.result c.in-Ok.ensures (rw (c.as_bytes.ensures.value, c.format.ensures.text) at c.put_all-in-Ok.ensures)

pub returns-in-Err : goal.returns-in-Err
returns-in-Err g c = fault_stops _ _ c.args.text.now (decimal c.args.number) c.in-Err.ensures
