use Rattle.std.proofs.Common.{length}
use Rattle.rax_packed.proofs.path.+nodes_below.Given as goal

abbrev pub decreases-nodes_below : goal.decreases-nodes_below
decreases-nodes_below g l = length l.rest.now
