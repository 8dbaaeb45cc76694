use Rattle.std.proofs.Common.{arith}
use Rattle.blocks.proofs.Serve.{served_once, served_next}
use Rattle.pack_block.proofs.Edited.{pieces_written}
use Rattle.pack_block.proofs.edits.write_pieces.Goals as goal

pub returns-clause-written : goal.returns-clause-written
returns-clause-written g c =
    pieces_written (g.B.BlockStore.blocks c.args.store.now) (g.B.BlockStore.blocks c.write.new.self) (g.B.BlockStore.blocks c.write-2.new.self) (g.B.BlockStore.blocks c.write-3.new.self) c.args.at c.args.from
    c.args.a.now c.args.b.now c.args.c.now (omega (arith, c.requires.room)) c.write.ensures.written c.write-2.ensures.written c.write-3.ensures.written

pub returns-clause-served : goal.returns-clause-served
returns-clause-served g c = served_next _ _ _ (served_next _ _ _ (served_once _ _ c.write.ensures.step) c.write-2.ensures.step) c.write-3.ensures.step
