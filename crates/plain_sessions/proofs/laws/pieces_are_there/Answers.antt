use Rattle.plain_sessions.proofs.Piecing.{pieces_are_there}
use Rattle.plain_sessions.proofs.laws.pieces_are_there.Goals as goal

pub returns : goal.returns
returns c = pieces_are_there
