use Rattle.plain_sessions.proofs.Running.{histories_run}
use Rattle.plain_sessions.proofs.laws.histories_are_runs.Goals as goal

pub returns : goal.returns
returns c = histories_run
