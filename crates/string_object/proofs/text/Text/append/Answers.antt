use Rattle.blocks.proofs.Serve.{served_next}
use Rattle.string_object.proofs.text.Text.append.Goals as goal

pub returns-clause-served : goal.returns-clause-served
returns-clause-served g c = served_next _ _ _ c.widen.ensures.served c.write.ensures.step
