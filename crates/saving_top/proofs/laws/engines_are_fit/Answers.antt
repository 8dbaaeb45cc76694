use Rattle.saving_top.proofs.Engines.{engines_fit}
use Rattle.saving_top.proofs.laws.engines_are_fit.Goals as goal

pub returns : goal.returns
returns c = engines_fit
