use Rattle.blocks.proofs.Serve.{served_once}
use Rattle.rax_packed.proofs.grow.relink.Goals as goal

pub returns-clause-served : goal.returns-clause-served
returns-clause-served g c = served_once _ _ c.write.ensures.step
