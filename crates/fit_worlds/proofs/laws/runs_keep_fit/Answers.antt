use Rattle.fit_worlds.proofs.Steps.{runs_fit}
use Rattle.fit_worlds.proofs.laws.runs_keep_fit.Goals as goal

pub returns : goal.returns
returns c = runs_fit
