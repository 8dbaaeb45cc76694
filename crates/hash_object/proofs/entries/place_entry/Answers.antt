use Rattle.blocks.proofs.Serve.{served_next, served_then}
use Rattle.hash_object.proofs.entries.place_entry.Goals as goal

pub returns-in-Ok-clause-served : goal.returns-in-Ok-clause-served
returns-in-Ok-clause-served g c = served_then _ _ _ c.put_block.ensures.served c.put_block-2.ensures.served

pub returns-in-Err-clause-served : goal.returns-in-Err-clause-served
returns-in-Err-clause-served g c = served_next _ _ _ (served_then _ _ _ c.put_block.ensures.served c.put_block-2.ensures.served) c.give_back.ensures.step
