use Rattle.std.proofs.Common.{◌≡◌, ◌++◌, take, flat_map}
use Rattle.cmd_streams.proofs.Told.{entry_told}
use Rattle.cmd_streams.proofs.telling.push_all.Given as goal

abbrev pub invariant-loop-entry : goal.invariant-loop-entry
invariant-loop-entry l = l.parts ≡ l.fn.parts ++ flat_map entry_told (take l.entry-index l.entries)
