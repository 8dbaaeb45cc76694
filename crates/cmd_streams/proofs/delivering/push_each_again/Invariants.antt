use Rattle.std.proofs.Common.{◌≡◌, ◌++◌, take, flat_map}
use Rattle.cmd_streams.specs.Handed.{again_parts}
use Rattle.cmd_streams.proofs.delivering.push_each_again.Given as goal

abbrev pub invariant-loop-again : goal.invariant-loop-again
invariant-loop-again l = l.parts ≡ l.fn.parts ++ flat_map again_parts (take l.again-index l.list)
