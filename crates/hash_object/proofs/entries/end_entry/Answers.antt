use Rattle.blocks.proofs.Serve.{served_once, served_next}
use Rattle.hash_object.proofs.entries.end_entry.Goals as goal

pub returns-clause-served : goal.returns-clause-served
returns-clause-served g c = served_next _ _ _ (served_once _ _ c.give_back.ensures.step) c.give_back-2.ensures.step
