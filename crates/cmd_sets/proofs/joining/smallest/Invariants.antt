use Rattle.std.proofs.Common.{◌<◌, length}
use Rattle.cmd_sets.proofs.joining.smallest.Given as goal

abbrev pub invariant-loop-index : goal.invariant-loop-index
invariant-loop-index g l = l.least < length l.keys
