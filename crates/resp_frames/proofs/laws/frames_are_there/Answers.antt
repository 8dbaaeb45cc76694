use Rattle.resp_frames.proofs.Streams.{frames_there}
use Rattle.resp_frames.proofs.laws.frames_are_there.Goals as goal

pub returns : goal.returns
returns c = frames_there
