use Rattle.blocks.proofs.Serve.{served_next}
use Rattle.stream_object.proofs.Holdings.{put_whole}
use Rattle.stream_object.proofs.block.write_whole.Goals as goal

pub returns-clause-put : goal.returns-clause-put
returns-clause-put g c = λ _.
    put_whole (g.B.BlockStore.blocks c.args.store.now) (g.B.BlockStore.blocks c.resize.new.store) (g.B.BlockStore.blocks c.write.new.self) c.args.at c.args.bytes.now
    (c.resize.ensures.resized c.if-not-resize.false) c.write.ensures.written

pub returns-clause-served : goal.returns-clause-served
returns-clause-served g c = served_next _ _ _ c.resize.ensures.served c.write.ensures.step
