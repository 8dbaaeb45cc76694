use Rattle.plain_sessions.proofs.Running.{null_where_changed}
use Rattle.plain_sessions.proofs.laws.null_where_changed.Goals as goal

pub returns : goal.returns
returns c = null_where_changed
