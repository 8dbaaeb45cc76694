use Rattle.blocks.proofs.Serve.{served_once, served_then}
use Rattle.stream_object.proofs.block.write_behind.Goals as goal

pub returns-then-not-stretch-clause-served : goal.returns-then-not-stretch-clause-served
returns-then-not-stretch-clause-served g c = served_once _ _ c.stretch.ensures.step

pub returns-clause-served : goal.returns-clause-served
returns-clause-served g c = served_then _ _ _ (served_once _ _ c.stretch.ensures.step) c.put_behind.ensures.served
