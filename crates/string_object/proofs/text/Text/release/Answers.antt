use Rattle.blocks.specs.Blocks.{no_step}
use Rattle.blocks.proofs.Serve.{served_once}
use Rattle.string_object.proofs.text.Text.release.Goals as goal

pub returns-in-Number-clause-served : goal.returns-in-Number-clause-served
returns-in-Number-clause-served g c = no_step

pub returns-in-Whole-clause-served : goal.returns-in-Whole-clause-served
returns-in-Whole-clause-served g c = served_once _ _ c.give_back.ensures.step
