use Rattle.plain_sessions.proofs.Arriving.{arrivals_there}
use Rattle.plain_sessions.proofs.laws.arrivals_are_there.Goals as goal

pub returns : goal.returns
returns c = arrivals_there
