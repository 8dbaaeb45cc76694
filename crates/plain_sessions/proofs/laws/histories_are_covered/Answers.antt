use Rattle.plain_sessions.proofs.Running.{histories_covered}
use Rattle.plain_sessions.proofs.laws.histories_are_covered.Goals as goal

pub returns : goal.returns
returns c = histories_covered
