use Rattle.std.proofs.Common.{refl}
use Rattle.generator.proofs.commands.kind_of.Goals as goal

pub returns : goal.returns
returns c = refl
