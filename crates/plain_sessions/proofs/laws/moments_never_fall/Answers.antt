use Rattle.plain_sessions.proofs.Running.{moments_rise}
use Rattle.plain_sessions.proofs.laws.moments_never_fall.Goals as goal

pub returns : goal.returns
returns c = moments_rise
