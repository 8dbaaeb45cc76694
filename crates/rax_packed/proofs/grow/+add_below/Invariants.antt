use Rattle.std.proofs.Common.{length}
use Rattle.rax_packed.proofs.grow.+add_below.Given as goal

abbrev pub decreases-add_below : goal.decreases-add_below
decreases-add_below g l = length l.rest.now
