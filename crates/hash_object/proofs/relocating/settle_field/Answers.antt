use Rattle.hash_object.proofs.Settling.{field_settled, calm_field}
use Rattle.hash_object.proofs.relocating.settle_field.Goals as goal

pub settle-new-requires : goal.settle-new-requires
settle-new-requires g c = c.requires.keyed.live c.args.at _ c.entry.ensures.found

pub returns-clause-settled : goal.returns-clause-settled
returns-clause-settled g c =
    field_settled (g.B.BlockStore.blocks c.args.store.now) (g.B.BlockStore.blocks c.settle-new.new.store) c.args.table.now c.swap_ref.new.self c.args.at c.entry.result.0
    c.settle-new.result c.entry.result.1.now c.requires.keyed c.requires.owned c.entry.ensures
    c.settle-new.ensures.bytes c.settle-new.ensures.changes c.swap_ref.ensures

pub returns-clause-calm : goal.returns-clause-calm
returns-clause-calm g c = calm_field (g.B.BlockStore.heap c.settle-new.new.store) c.swap_ref.new.self c.args.at _ c.swap_ref.ensures.updates.changed c.settle-new.ensures.calm
