use Rattle.blocks.specs.Blocks.{no_step}
use Rattle.rax_packed.proofs.tree.PackedTree.copy.Goals as goal

pub returns-in-None-clause-served : goal.returns-in-None-clause-served
returns-in-None-clause-served g c = no_step

pub returns-in-None-clause-sound : goal.returns-in-None-clause-sound
returns-in-None-clause-sound g c = c.new.ensures.sound (g.B.BlockStore.blocks c.args.store.now)
