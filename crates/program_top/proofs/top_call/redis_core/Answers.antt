use Rattle.std.proofs.Common.{[], refl}
use Rattle.program_top.specs.Running.{Drops, read, unread}
use Rattle.program_top.specs.declared.ending.Ending.TheVariants as endings
use Rattle.program_top.proofs.Worlds.{finishes_as}
use Rattle.program_top.proofs.Whole.{answers_dropped}
use Rattle.program_top.proofs.top_call.redis_core.Goals as goal

pub run_given-requires : goal.run_given-requires
run_given-requires g c = c.in-Ok.ensures.taken

pub returns-in-Ok : goal.returns-in-Ok
returns-in-Ok g c =
    let f = finishes_as Drops _ _ _ _ c.run_given.result c.in-Ok.ensures.options c.run_given.ensures in
    answers_dropped _ _ c.run_given.result _ _ (read f.run) f.line c.status.ensures

pub returns-in-Err : goal.returns-in-Err
returns-in-Err g c =
    answers_dropped _ (record { host = _; input = _; output = _; notes = _; clock = _; pacers = [] }) endings.Memory _ _ (unread refl refl) c.note.ensures c.status-in-Err.ensures
