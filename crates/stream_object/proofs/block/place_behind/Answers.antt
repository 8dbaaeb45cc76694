use Rattle.blocks.proofs.Serve.{served_once, served_then}
use Rattle.stream_object.proofs.block.place_behind.Goals as goal

pub returns-in_err-at-clause-served : goal.returns-in_err-at-clause-served
returns-in_err-at-clause-served g c = served_once _ _ c.place.ensures.step

pub returns-clause-served : goal.returns-clause-served
returns-clause-served g c = served_then _ _ _ (served_then _ _ _ (served_once _ _ c.place.ensures.step) c.copy_block.ensures.served) c.put_behind.ensures.served
