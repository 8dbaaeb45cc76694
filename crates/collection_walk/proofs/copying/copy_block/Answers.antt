use Rattle.blocks.specs.Blocks.{no_step}
use Rattle.collection_walk.proofs.copying.copy_block.Goals as goal

pub returns-in_err-bytes-clause-served : goal.returns-in_err-bytes-clause-served
returns-in_err-bytes-clause-served g c = no_step
