use Rattle.plain_sessions.proofs.Arriving.{one_stream}
use Rattle.plain_sessions.proofs.laws.one_stream_is_a_session.Goals as goal

pub returns : goal.returns
returns c = one_stream
