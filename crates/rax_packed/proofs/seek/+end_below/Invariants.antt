use Rattle.std.proofs.Common.{◌-◌}
use Rattle.rax_packed.proofs.seek.+end_below.Given as goal

abbrev pub decreases-end_below : goal.decreases-end_below
decreases-end_below g l = 16 - l.depth
