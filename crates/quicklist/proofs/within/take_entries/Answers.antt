use Rattle.quicklist.proofs.Overwriting.{remade_taken, if_ok_three}
use Rattle.quicklist.proofs.within.take_entries.Goals as goal

pub returns-clause-remade : goal.returns-clause-remade
returns-clause-remade g c =
    let m = g.B.BlockStore.blocks c.args.store.now in
    let n = g.B.BlockStore.blocks c.remove_range.new.store in
    let h = c.remove_range.ensures in
    if_ok_three _ _ _ _ c.remove_range.result (λ at e list changes. remade_taken m n c.args.node at c.args.from c.args.to _ c.requires.readable.is_node c.requires.packed c.requires.order e list changes)
    h.entries h.list h.changes
