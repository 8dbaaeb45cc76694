use Rattle.std.proofs.Common.{◌≢◌}
use Rattle.set_object.proofs.Settling.{item_settled, settled_same}
use Rattle.set_object.proofs.relocating.settle_item.Goals as goal

pub settle-new-requires : goal.settle-new-requires
settle-new-requires g c = c.requires.live c.args.at _ c.entry.ensures.found

pub returns-then-is_entry-clause-settled : goal.returns-then-is_entry-clause-settled
returns-then-is_entry-clause-settled g c =
    item_settled (g.B.BlockStore.blocks c.args.store.now) (g.B.BlockStore.blocks c.settle-new.new.store) c.args.table.now c.swap_ref.new.self c.args.at c.entry.result.0 c.settle-new.result
    c.requires c.entry.ensures
    c.settle-new.ensures.bytes c.settle-new.ensures.changes c.swap_ref.ensures

pub returns-else-is_entry-clause-settled : goal.returns-else-is_entry-clause-settled
returns-else-is_entry-clause-settled g c = settled_same (g.B.BlockStore.blocks c.args.store.now) c.args.table.now (λ i. i ≢ c.args.at) c.requires
