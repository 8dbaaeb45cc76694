use Rattle.plain_sessions.proofs.Telling.{units_apart}
use Rattle.plain_sessions.proofs.laws.units_are_apart.Goals as goal

pub returns : goal.returns
returns c = units_apart
