use Rattle.std.proofs.Common.{◌∙◌, arith}
use Rattle.blocks.proofs.Written.{read_written, length-placed}
use Rattle.blocks.proofs.Serve.{served_once, served_next}
use Rattle.blocks.proofs.laws.written_is_read.Goals as goal

pub returns-in_err-at-clause-served : goal.returns-in_err-at-clause-served
returns-in_err-at-clause-served g c = served_once _ _ c.place.ensures.step

pub returns-clause-read : goal.returns-clause-read
returns-clause-read g c =
    let long = length-placed (g.B.BlockStore.blocks c.args.store.now) (g.B.BlockStore.blocks c.place.new.self) c.in_ok-at.at c.args.len c.in_ok-at.ensures.placed in
    c.eq-same.ensures ∙ read_written (g.B.BlockStore.blocks c.place.new.self) (g.B.BlockStore.blocks c.write.new.self) c.in_ok-at.at c.args.from c.args.piece.now c.bytes.result.now
    c.write.ensures.written c.bytes.ensures (omega (arith, long, c.requires))

pub returns-clause-served : goal.returns-clause-served
returns-clause-served g c = served_next _ _ _ (served_once _ _ c.place.ensures.step) c.write.ensures.step
