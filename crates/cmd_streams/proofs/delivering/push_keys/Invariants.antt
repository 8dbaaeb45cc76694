use Rattle.std.proofs.Common.{◌≡◌, ◌++◌, take, flat_map}
use Rattle.cmd_streams.specs.Handed.{key_parts}
use Rattle.cmd_streams.proofs.delivering.push_keys.Given as goal

abbrev pub invariant-loop-one : goal.invariant-loop-one
invariant-loop-one l = l.parts ≡ l.fn.parts ++ flat_map key_parts (take l.one-index l.found)
