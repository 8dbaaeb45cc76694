use Rattle.program_top.proofs.Lines.{number_then, number_stops}
use Rattle.program_top.proofs.notes.put_numbered_fault.Goals as goal

pub returns-in-Ok : goal.returns-in-Ok
returns-in-Ok g c = number_then _ _ _ c.args.text.now c.args.number c.args.at c.put_place.result c.in-Ok.ensures c.put_place.ensures

pub returns-in-Err : goal.returns-in-Err
returns-in-Err g c = number_stops _ _ c.args.text.now c.args.number c.args.at c.in-Err.ensures
