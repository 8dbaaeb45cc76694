use Rattle.std.proofs.Common.{◌≡◌, ◌++◌, take, flat_map}
use Rattle.cmd_streams.specs.Several.{read_parts}
use Rattle.cmd_streams.proofs.several.push_keys.Given as goal

abbrev pub invariant-loop-one : goal.invariant-loop-one
invariant-loop-one l = l.parts ≡ l.fn.parts ++ flat_map read_parts (take l.one-index l.found)
