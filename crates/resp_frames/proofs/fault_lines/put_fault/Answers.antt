use Rattle.std.proofs.Common.{◌++◌}
use Rattle.std.specs.Prelude.{codes}
use Rattle.resp_frames.specs.FaultLines.{rule_text, place_text}
use Rattle.resp_frames.proofs.Putting.{puts_then, fault_stops}
use Rattle.resp_frames.proofs.fault_lines.put_fault.Goals as goal

pub returns-in-Ok : goal.returns-in-Ok
returns-in-Ok g c = puts_then _ _ _ (codes "-ERR Protocol error: " ++ rule_text c.args.rule) (place_text c.args.at) c.put_place.result (rw c.text_of_rule.ensures at c.in-Ok.ensures)
    c.put_place.ensures

pub returns-in-Err : goal.returns-in-Err
returns-in-Err g c = fault_stops _ _ (codes "-ERR Protocol error: " ++ rule_text c.args.rule) (place_text c.args.at) (rw c.text_of_rule.ensures at c.in-Err.ensures)
