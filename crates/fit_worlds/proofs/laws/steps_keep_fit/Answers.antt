use Rattle.fit_worlds.proofs.Steps.{steps_fit}
use Rattle.fit_worlds.proofs.laws.steps_keep_fit.Goals as goal

pub returns : goal.returns
returns c = steps_fit
