use Rattle.blocks.proofs.Serve.{served_once, served_next}
use Rattle.collection_walk.proofs.replacing.replace_block.Goals as goal

pub returns-then-bytes-clause-served : goal.returns-then-bytes-clause-served
returns-then-bytes-clause-served g c = served_once _ _ c.write.ensures.step

pub returns-clause-served : goal.returns-clause-served
returns-clause-served g c = served_next _ _ _ c.put_block.ensures.served c.give_back.ensures.step
