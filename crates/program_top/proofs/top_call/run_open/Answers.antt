use Rattle.std.proofs.Common.{◌∙◌, refl}
use Rattle.program_top.specs.WordsRead.{options_read}
use Rattle.program_top.specs.Running.{begun}
use Rattle.program_top.proofs.Worlds.{begins_engine, conducted, reads_none}
use Rattle.program_top.proofs.top_call.run_open.Goals as goal

pub returns-in-Ok : goal.returns-in-Ok
returns-in-Ok g c =
    let s = c.in-Ok.ensures.starts in
    let n = c.serve_noted-ended.ensures in
    record {
      run = begun _ _ c.serve_noted-ended.result
          (begins_engine (options_read c.args.options) _ c.in-Ok.engine _ c.moment_of-moment.result _ c.moment_of-moment.ensures s.0 s.1 s.2 (c.new-conductor.ensures ∙ conducted _ _ _))
          c.in-Ok.ensures.host n.goes (reads_none _ _) c.served_to.ensures refl;
      line = rw c.served_to.ensures n.line;
    }
