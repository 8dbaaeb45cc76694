use Rattle.blocks.proofs.Serve.{served_next, served_then}
use Rattle.quicklist.proofs.Overwriting.{remade_anew}
use Rattle.quicklist.proofs.within.put_pack.Goals as goal

pub returns-in_err-new-clause-served : goal.returns-in_err-new-clause-served
returns-in_err-new-clause-served g c = served_then _ _ _ c.write_over.ensures.served c.put_block.ensures.served

pub returns-clause-remade : goal.returns-clause-remade
returns-clause-remade g c =
    remade_anew (g.B.BlockStore.blocks c.args.store.now) (g.B.BlockStore.blocks c.write_over.new.store) (g.B.BlockStore.blocks c.put_block.new.store) (g.B.BlockStore.blocks c.give_back.new.self)
    c.args.node c.in_ok-new.new c.args.bytes.now c.requires.live c.requires.packed (c.write_over.ensures.stays c.if-write_over.false) c.in_ok-new.ensures.fresh c.in_ok-new.ensures.placed
    c.give_back.ensures.ended

pub returns-clause-served : goal.returns-clause-served
returns-clause-served g c = served_next _ _ _ (served_then _ _ _ c.write_over.ensures.served c.put_block.ensures.served) c.give_back.ensures.step
