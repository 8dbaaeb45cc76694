use Rattle.program_top.proofs.Lines.{notes_line}
use Rattle.program_top.proofs.notes.note.Goals as goal

pub returns-in-Ok : goal.returns-in-Ok
returns-in-Ok g c = notes_line _ _ _ c.put_line.result c.put_line.ensures

pub returns-in-Err : goal.returns-in-Err
returns-in-Err g c = notes_line _ _ _ c.put_line.result c.put_line.ensures
