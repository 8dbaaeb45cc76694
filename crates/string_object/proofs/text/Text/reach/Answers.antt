use Rattle.blocks.specs.Blocks.{no_step}
use Rattle.string_object.proofs.text.Text.reach.Goals as goal

pub returns-then-bytes-len-clause-served : goal.returns-then-bytes-len-clause-served
returns-then-bytes-len-clause-served g c = no_step
