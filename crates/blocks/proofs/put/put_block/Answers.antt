use Rattle.blocks.proofs.Serve.{served_once, served_next}
use Rattle.blocks.proofs.Written.{placed_written}
use Rattle.blocks.proofs.put.put_block.Goals as goal

pub returns-in_err-at-clause-served : goal.returns-in_err-at-clause-served
returns-in_err-at-clause-served g c = served_once _ _ c.place.ensures.step

pub returns-clause-placed : goal.returns-clause-placed
returns-clause-placed g c = placed_written (g.B.BlockStore.blocks c.args.store.now) _ _ c.in_ok-at.at c.args.bytes.now c.in_ok-at.ensures.placed c.write.ensures.written

pub returns-clause-served : goal.returns-clause-served
returns-clause-served g c = served_next _ _ _ (served_once _ _ c.place.ensures.step) c.write.ensures.step
