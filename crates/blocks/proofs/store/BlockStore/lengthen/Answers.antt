use Rattle.blocks.proofs.Copies.{lengthened_by}
use Rattle.blocks.proofs.Serve.{served_once, served_next, served_then}
use Rattle.blocks.proofs.store.BlockStore.lengthen.Goals as goal

pub returns-in_err-new-clause-served : goal.returns-in_err-new-clause-served
returns-in_err-new-clause-served g c = served_once _ _ c.place.ensures.step

pub returns-clause-lengthened : goal.returns-clause-lengthened
returns-clause-lengthened g c =
    lengthened_by (g.Self.BlockStore.blocks c.args.self.now) (g.Self.BlockStore.blocks c.place.new.self) (g.Self.BlockStore.blocks c.copy_block.new.self)
    (g.Self.BlockStore.blocks c.give_back.new.self) c.args.at c.in_ok-new.new c.args.len
    c.requires.live c.in_ok-new.ensures.fresh c.requires.longer c.in_ok-new.ensures.placed c.copy_block.ensures.copied c.give_back.ensures.ended

pub returns-clause-served : goal.returns-clause-served
returns-clause-served g c = served_next _ _ _ (served_then _ _ _ (served_once _ _ c.place.ensures.step) c.copy_block.ensures.served) c.give_back.ensures.step
