use Rattle.std.proofs.Common.{[], refl}
use Rattle.program_top.specs.declared.ending.Ending.TheVariants as plain
use Rattle.sessions_top.proofs.Whole.{answers_as}
use Rattle.sessions_top.proofs.Worlds.{finishes_as}
use Rattle.sessions_top.specs.Running.{read, unread}
use Rattle.sessions_top.specs.declared.ending.SessionsEnding.TheVariants as endings
use Rattle.sessions_top.proofs.top_call.redis_sessions.Goals as goal

pub run_given-requires : goal.run_given-requires
run_given-requires g c = c.in-Ok.ensures.taken

pub returns-in-Ok : goal.returns-in-Ok
returns-in-Ok g c =
    let f = finishes_as _ _ _ _ c.run_given.result c.in-Ok.ensures.options c.run_given.ensures in
    answers_as _ _ _ c.run_given.result _ (read f.run) f.line c.status.ensures

pub returns-in-Err : goal.returns-in-Err
returns-in-Err g c =
    answers_as _ (record { host = _; input = _; output = _; notes = _; clock = _; pacers = [] }) _ (endings.Run plain.Memory) _ (unread refl refl) c.note_sessions.ensures c.status-in-Err.ensures
