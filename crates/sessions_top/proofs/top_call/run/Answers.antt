use Rattle.std.proofs.Common.{refl, ◌∙◌}
use Rattle.program_top.proofs.Worlds.{conducted}
use Rattle.program_top.specs.WordsRead.{options_read}
use Rattle.sessions_top.proofs.Worlds.{begins_new, reads_none}
use Rattle.sessions_top.specs.Running.{begun, not_begun}
use Rattle.sessions_top.proofs.top_call.run.Goals as goal

pub returns-in-Ok : goal.returns-in-Ok
returns-in-Ok g c =
    let s = c.in-Ok.ensures.starts in
    record {
      run = begun _ _ c.serve_sessions-ended.result
          (begins_new (options_read c.args.options) _ c.in-Ok.engine c.new-desk.result _ c.moment_of-moment.result _ c.moment_of-moment.ensures s.0 s.1 s.2 c.new-desk.ensures.engine c.new-desk.ensures.sessions
          (c.new-conductor.ensures ∙ conducted _ _ _))
          c.in-Ok.ensures.host c.serve_sessions-ended.ensures (reads_none _ _) c.sessions_served_to-ending.ensures;
      line = c.note_sessions.ensures;
    }

pub returns-in-Err : goal.returns-in-Err
returns-in-Err g c = record {
  run = not_begun _ (record { moment = _; read = c.moment_of-moment.ensures; why = c.in-Err.ensures.starts; host = c.in-Err.ensures.host; input = refl; output = refl }) refl;
  line = c.note_sessions-in-Err.ensures;
}
