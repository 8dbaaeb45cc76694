use Rattle.std.proofs.Common.{◌∙◌, sym, ap}
use Rattle.rax_packed.specs.Maps.{root_marks}
use Rattle.rax_packed.specs.Paths.{nodes_with}
use Rattle.rax_packed.proofs.Paths.{nodes_with_none}
use Rattle.rax_packed.proofs.tree.PackedTree.nodes_of.Goals as goal

pub returns-in-None : goal.returns-in-None
returns-in-None g c = c.new-nodes.ensures ∙ sym (ap (λ root. nodes_with (root_marks (g.B.BlockStore.blocks c.args.store.now) root) c.args.key.now) c.in-None.is ∙ nodes_with_none c.args.key.now)
