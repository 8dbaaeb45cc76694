use Rattle.plain_sessions.proofs.Running.{one_session}
use Rattle.plain_sessions.proofs.laws.one_session_is_a_run.Goals as goal

pub returns : goal.returns
returns c = one_session
