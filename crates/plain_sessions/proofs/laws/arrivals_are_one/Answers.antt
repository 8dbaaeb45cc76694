use Rattle.plain_sessions.proofs.Arriving.{arrivals_one}
use Rattle.plain_sessions.proofs.laws.arrivals_are_one.Goals as goal

pub returns : goal.returns
returns c = arrivals_one
