use Rattle.std.proofs.Common.{[], ◌-◌, ◌≤◌, length, drop}
use Rattle.resp_frames.specs.Feeding.{GivesRequests}
use Rattle.resp_frames.specs.RequestRead.{Stands}
use Rattle.resp_frames.proofs.feeder.next_found.Given as goal

abbrev pub invariant-passed : goal.invariant-passed
invariant-passed l = record {
  gives : GivesRequests l.bytes (drop l.at l.bytes) [];
  within : l.at ≤ length l.bytes;
  stands : Stands (drop l.at l.bytes) l.read.read l.spans.items l.read.due;
}

abbrev pub decreases-passed : goal.decreases-passed
decreases-passed l = length l.bytes - l.at
