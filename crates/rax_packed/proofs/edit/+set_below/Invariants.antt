use Rattle.std.proofs.Common.{length}
use Rattle.rax_packed.proofs.edit.+set_below.Given as goal

abbrev pub decreases-set_below : goal.decreases-set_below
decreases-set_below g l = length l.rest.now
