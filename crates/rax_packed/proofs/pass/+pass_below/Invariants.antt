use Rattle.std.proofs.Common.{◌-◌}
use Rattle.rax_packed.proofs.pass.+pass_below.Given as goal

abbrev pub decreases-pass_below : goal.decreases-pass_below
decreases-pass_below g l = 16 - l.depth
