use Rattle.resp_frames.proofs.Streams.{one_frames}
use Rattle.resp_frames.proofs.laws.frames_are_one.Goals as goal

pub returns : goal.returns
returns c = one_frames
