use Rattle.std.proofs.Common.{refl}
use Rattle.digests.specs.Siphash.{initial}
use Rattle.digests.proofs.siphash.State.new.Goals as goal

pub returns : goal.returns
unfolding initial
returns c = refl
