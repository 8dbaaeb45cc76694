use Rattle.std.proofs.Common.{length}
use Rattle.rax_packed.proofs.relocate.+relocate_below.Given as goal

abbrev pub decreases-relocate_below : goal.decreases-relocate_below
decreases-relocate_below g l = length l.rest.now
