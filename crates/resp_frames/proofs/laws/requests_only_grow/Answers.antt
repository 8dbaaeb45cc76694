use Rattle.resp_frames.proofs.Streams.{requests_grow}
use Rattle.resp_frames.proofs.laws.requests_only_grow.Goals as goal

pub returns : goal.returns
returns c = requests_grow
