use Rattle.program_top.specs.Running.{Drops}
use Rattle.program_top.specs.Stepped.{Leaves}
use Rattle.program_top.proofs.Worlds.{closed_as}
use Rattle.program_top.proofs.top_call.run.Goals as goal

pub returns : goal.returns
returns g c = closed_as (Leaves c.run_open-ending.result.1) Drops (λ last ended left. tt) _ _ _ c.run_open-ending.result.0 c.run_open-ending.ensures
