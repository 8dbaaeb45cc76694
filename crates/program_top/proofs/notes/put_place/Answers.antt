use Rattle.std.proofs.Common.{◌++◌}
use Rattle.std.specs.Prelude.{codes}
use Rattle.std.specs.Fmt.{decimal}
use Rattle.resp_frames.proofs.Putting.{puts_then, fault_stops}
use Rattle.program_top.specs.Notes.{line_feed}
use Rattle.program_top.proofs.notes.put_place.Goals as goal

pub returns-in-Ok : goal.returns-in-Ok
returns-in-Ok g c = puts_then _ _ _ (codes " at byte " ++ decimal c.args.at) line_feed c.put_all.result c.in-Ok.ensures c.put_all.ensures

pub returns-in-Err : goal.returns-in-Err
returns-in-Err g c = fault_stops _ _ (codes " at byte " ++ decimal c.args.at) line_feed c.in-Err.ensures
