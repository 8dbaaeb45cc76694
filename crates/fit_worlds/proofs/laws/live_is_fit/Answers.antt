use Rattle.fit_worlds.proofs.Worlds.{fit_live}
use Rattle.fit_worlds.proofs.laws.live_is_fit.Goals as goal

pub returns : goal.returns
returns c = fit_live
