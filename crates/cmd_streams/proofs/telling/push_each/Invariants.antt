use Rattle.std.proofs.Common.{◌≡◌, ◌++◌, take, flat_map}
use Rattle.cmd_streams.specs.Telling.{both}
use Rattle.cmd_streams.proofs.telling.push_each.Given as goal

abbrev pub invariant-loop-index : goal.invariant-loop-index
invariant-loop-index l = l.parts ≡ l.fn.parts ++ flat_map both (take l.index l.pairs)
