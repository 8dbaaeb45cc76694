use Rattle.resp_frames.proofs.Streams.{fault_frames}
use Rattle.resp_frames.proofs.laws.faults_stay.Goals as goal

pub returns : goal.returns
returns c = fault_frames
