use Rattle.blocks.proofs.Serve.{served_next}
use Rattle.held.proofs.keyspace.release_both.Goals as goal

pub returns-clause-served : goal.returns-clause-served
returns-clause-served g c = served_next _ _ _ c.release.ensures.served c.give_back.ensures.step
