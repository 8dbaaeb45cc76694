use Rattle.std.proofs.Common.{length}
use Rattle.rax_packed.proofs.cut.+cut_below.Given as goal

abbrev pub decreases-cut_below : goal.decreases-cut_below
decreases-cut_below g l = length l.rest.now
