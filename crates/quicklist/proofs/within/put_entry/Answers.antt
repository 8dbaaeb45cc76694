use Rattle.quicklist.proofs.Overwriting.{remade_put, if_ok_three}
use Rattle.quicklist.proofs.within.put_entry.Goals as goal

pub returns-clause-remade : goal.returns-clause-remade
returns-clause-remade g c =
    let m = g.B.BlockStore.blocks c.args.store.now in
    let n = g.B.BlockStore.blocks c.insert.new.store in
    let h = c.insert.ensures in
    if_ok_three _ _ _ _ c.insert.result
    (λ at e list changes. remade_put m n c.args.node at c.args.element.now c.args.index _ c.requires.readable.is_node c.requires.space e list changes) h.entries h.list h.changes
