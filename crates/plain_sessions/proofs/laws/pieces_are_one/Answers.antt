use Rattle.plain_sessions.proofs.Piecing.{pieces_are_one}
use Rattle.plain_sessions.proofs.laws.pieces_are_one.Goals as goal

pub returns : goal.returns
returns c = pieces_are_one
