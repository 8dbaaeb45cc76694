use Rattle.plain_sessions.proofs.Arriving.{each_is_stream}
use Rattle.plain_sessions.proofs.laws.each_session_is_a_stream.Goals as goal

pub returns : goal.returns
returns c = each_is_stream
