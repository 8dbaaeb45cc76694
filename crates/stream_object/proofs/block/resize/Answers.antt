use Rattle.blocks.specs.Blocks.{no_step}
use Rattle.blocks.proofs.Serve.{served_once}
use Rattle.stream_object.proofs.block.resize.Goals as goal

pub returns-then-bytes-len-clause-served : goal.returns-then-bytes-len-clause-served
returns-then-bytes-len-clause-served g c = no_step

pub returns-else-bytes-len-clause-served : goal.returns-else-bytes-len-clause-served
returns-else-bytes-len-clause-served g c = served_once _ _ c.stretch.ensures.step
