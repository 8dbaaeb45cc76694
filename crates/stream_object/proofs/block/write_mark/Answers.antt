use Rattle.blocks.proofs.Serve.{served_once, served_next}
use Rattle.stream_object.proofs.Holdings.{mark_put}
use Rattle.stream_object.proofs.block.write_mark.Goals as goal

pub returns-clause-put : goal.returns-clause-put
returns-clause-put g c =
    mark_put (g.B.BlockStore.blocks c.args.store.now) (g.B.BlockStore.blocks c.write.new.self) (g.B.BlockStore.blocks c.write-2.new.self) (g.B.BlockStore.blocks c.write-3.new.self)
    c.args.at c.args.mark c.requires.some c.requires.inside c.write.ensures.written c.write-2.ensures.written c.write-3.ensures.written

pub returns-clause-served : goal.returns-clause-served
returns-clause-served g c = served_next _ _ _ (served_next _ _ _ (served_once _ _ c.write.ensures.step) c.write-2.ensures.step) c.write-3.ensures.step
