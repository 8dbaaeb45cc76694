use Rattle.blocks.proofs.Serve.{served_once}
use Rattle.string_object.proofs.text.Text.copy_to.Goals as goal

pub returns-in-Number-clause-served : goal.returns-in-Number-clause-served
returns-in-Number-clause-served g c = served_once _ _ c.write.ensures.step
