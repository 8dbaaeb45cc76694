use Rattle.std.proofs.Common.{◌≡◌, ◌++◌, take, flat_map}
use Rattle.cmd_streams.specs.Pending.{owner_told}
use Rattle.cmd_streams.proofs.pending.push_each.Given as goal

abbrev pub invariant-loop-owner : goal.invariant-loop-owner
invariant-loop-owner l = l.parts ≡ l.fn.parts ++ flat_map owner_told (take l.owner-index l.owners)
