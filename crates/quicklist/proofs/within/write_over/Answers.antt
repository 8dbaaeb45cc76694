use Rattle.blocks.proofs.Serve.{served_once, served_next}
use Rattle.quicklist.proofs.Overwriting.{over_all}
use Rattle.quicklist.proofs.within.write_over.Goals as goal

pub returns-then-not-stretch-clause-served : goal.returns-then-not-stretch-clause-served
returns-then-not-stretch-clause-served g c = served_once _ _ c.stretch.ensures.step

pub returns-clause-written : goal.returns-clause-written
returns-clause-written g c =
    λ yes. over_all (g.B.BlockStore.blocks c.args.store.now) (g.B.BlockStore.blocks c.stretch.new.self) (g.B.BlockStore.blocks c.write.new.self) c.args.at c.args.bytes.now
    (c.stretch.ensures.stretched c.if-not-stretch.false) c.write.ensures.written

pub returns-clause-served : goal.returns-clause-served
returns-clause-served g c = served_next _ _ _ (served_once _ _ c.stretch.ensures.step) c.write.ensures.step
