use Rattle.std.proofs.Common.{◌-◌}
use Rattle.rax_packed.proofs.seek.+seek_below.Given as goal

abbrev pub decreases-seek_below : goal.decreases-seek_below
decreases-seek_below g l = 16 - l.depth
