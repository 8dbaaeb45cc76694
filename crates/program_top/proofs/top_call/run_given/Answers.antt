use Rattle.std.proofs.Common.{refl}
use Rattle.program_top.specs.Running.{Drops}
use Rattle.program_top.proofs.Worlds.{run_read, generate_read}
use Rattle.program_top.proofs.top_call.run_given.Goals as goal

pub returns-in-Run : goal.returns-in-Run
returns-in-Run g c = run_read Drops c.args.given c.in-Run.options _ _ c.run.result c.in-Run.is c.run.ensures

pub returns-in-Generate : goal.returns-in-Generate
returns-in-Generate g c =
    let wrote = c.generate-ending in
    generate_read Drops c.args.given c.in-Generate.count c.in-Generate.options _ _ wrote.result c.in-Generate.is
    (record { run = record { wrote = wrote.ensures; others = refl }; line = c.note-in-Generate.ensures })
