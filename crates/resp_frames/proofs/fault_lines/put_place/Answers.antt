use Rattle.std.proofs.Common.{◌++◌}
use Rattle.std.specs.Prelude.{codes}
use Rattle.std.specs.Fmt.{decimal}
use Rattle.plain_world.specs.Spelling.{line_end}
use Rattle.resp_frames.proofs.Putting.{puts_then, fault_stops}
use Rattle.resp_frames.proofs.fault_lines.put_place.Goals as goal

pub returns-in-Ok : goal.returns-in-Ok
returns-in-Ok g c = puts_then _ _ _ (codes " at byte " ++ decimal c.args.at) line_end c.put_all.result (rw (c.as_bytes.ensures.value, c.format.ensures.text) at c.in-Ok.ensures) c.put_all.ensures

pub returns-in-Err : goal.returns-in-Err
returns-in-Err g c = fault_stops _ _ (codes " at byte " ++ decimal c.args.at) line_end (rw (c.as_bytes.ensures.value, c.format.ensures.text) at c.in-Err.ensures)
