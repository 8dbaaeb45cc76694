use Rattle.fit_worlds.proofs.Worlds.{fit_new}
use Rattle.fit_worlds.proofs.laws.begun_is_fit.Goals as goal

pub returns : goal.returns
returns c = fit_new
