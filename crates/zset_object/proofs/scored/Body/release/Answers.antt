use Rattle.blocks.specs.Blocks.{no_step}
use Rattle.blocks.proofs.Serve.{served_once}
use Rattle.zset_object.proofs.scored.Body.release.Goals as goal

pub returns-in-Empty-clause-served : goal.returns-in-Empty-clause-served
returns-in-Empty-clause-served g c = no_step

pub returns-in-Pack-clause-served : goal.returns-in-Pack-clause-served
returns-in-Pack-clause-served g c = served_once _ _ c.give_back.ensures.step
