use Rattle.program_top.proofs.Starts.{first_new}
use Rattle.program_top.proofs.starting.begin.Goals as goal

pub returns-in-Ok-clause-begun : goal.returns-in-Ok-clause-begun
returns-in-Ok-clause-begun c =
    let e = c.in-Ok.ensures in
    record {
      new = e.begun;
      first = first_new c.in-Ok.engine c.new.result c.args.seed c.args.limits c.new.ensures.blocks c.new.ensures.slabs e.store e.seed e.limits e.begun.turn e.begun.walk
          e.begun.grown e.begun.empty e.sound;
    }
