use Rattle.std.proofs.Common.{◌-◌, length}
use Rattle.resp_frames.specs.RequestRead.{Stands}
use Rattle.resp_frames.proofs.request.read_request.Given as goal

abbrev pub invariant-steps : goal.invariant-steps
invariant-steps l = Stands l.bytes l.at.read l.spans.items l.at.due

abbrev pub decreases-steps : goal.decreases-steps
decreases-steps l = length l.bytes - l.at.read
