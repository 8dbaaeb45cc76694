use Rattle.std.proofs.Common.{refl}
use Rattle.blocks.proofs.Serve.{served_same}
use Rattle.rax_packed.proofs.tree.PackedTree.release.Goals as goal

pub returns-in_default-clause-served : goal.returns-in_default-clause-served
returns-in_default-clause-served g c = served_same _ _ refl
