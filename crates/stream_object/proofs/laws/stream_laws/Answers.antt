use Rattle.stream_object.proofs.Clears.{stream_laws_hold}
use Rattle.stream_object.proofs.laws.stream_laws.Goals as goal

pub returns : goal.returns
returns c = stream_laws_hold
