use Rattle.std.proofs.Common.{sym}
use Rattle.rax_packed.proofs.Roots.{rootless_value}
use Rattle.rax_packed.proofs.tree.PackedTree.find.Goals as goal

pub returns-in-None : goal.returns-in-None
returns-in-None g c = sym (rootless_value _ c.args.self.now c.args.key.now c.in-None.is)
