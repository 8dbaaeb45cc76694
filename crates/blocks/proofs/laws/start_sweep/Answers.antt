use Rattle.blocks.proofs.Sweeps.{begun_used}
use Rattle.blocks.proofs.laws.start_sweep.Goals as goal

pub returns-clause-used : goal.returns-clause-used
returns-clause-used g c = begun_used _ _ c.begin_pass.ensures.begun
