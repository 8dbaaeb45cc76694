use Rattle.plain_sessions.proofs.Arriving.{arrivals_grow}
use Rattle.plain_sessions.proofs.laws.arrivals_only_grow.Goals as goal

pub returns : goal.returns
returns c = arrivals_grow
