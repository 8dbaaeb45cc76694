use Rattle.blocks.specs.Blocks.{no_step}
use Rattle.string_object.proofs.text.Text.make.Goals as goal

pub returns-in-Some-clause-served : goal.returns-in-Some-clause-served
returns-in-Some-clause-served g c = no_step
