use Rattle.std.proofs.Common.{◌≡◌, [], ◌∷◌, ◌∙◌, sym, ap, subst}
use Rattle.blocks.specs.Blocks.{Changes}
use Rattle.rehash_dict.specs.Table.{item}
use Rattle.hash_object.proofs.Tables.{value_live}
use Rattle.hash_object.proofs.Settling.{same_value, value_settled, calm_value}
use Rattle.hash_object.proofs.relocating.settle_value.Goals as goal

pub settle-new-requires : goal.settle-new-requires
settle-new-requires g c = value_live (g.B.BlockStore.blocks c.args.store.now) c.args.table.now c.args.at _ c.requires.owned c.entry.ensures.found

pub returns-clause-settled : goal.returns-clause-settled
returns-clause-settled g c =
    let sw = c.swap_value-old.ensures in
    let was : c.swap_value-old.result ≡ c.entry.result.1.now = same_value (item c.args.table.now c.args.at) sw.swaps.key c.entry.result.0 sw.swaps.hash c.entry.ensures.hash
    c.swap_value-old.result c.entry.result.1.now sw.swaps.found c.entry.ensures.found in
    value_settled (g.B.BlockStore.blocks c.args.store.now) (g.B.BlockStore.blocks c.settle-new.new.store) c.args.table.now c.swap_value-old.new.self c.args.at c.swap_value-old.result
    c.settle-new.result c.requires.keyed c.requires.owned
    (c.settle-new.ensures.bytes ∙ ap (g.B.BlockStore.blocks c.args.store.now) (sym was))
    (subst (λ q. Changes (g.B.BlockStore.blocks c.args.store.now) (g.B.BlockStore.blocks c.settle-new.new.store) (q ∷ []) (c.settle-new.result ∷ [])) (sym was) c.settle-new.ensures.changes)
    sw.swaps sw.keyed sw.tables

pub returns-clause-calm : goal.returns-clause-calm
returns-clause-calm g c = calm_value (g.B.BlockStore.heap c.settle-new.new.store) c.swap_value-old.new.self c.args.at _ c.swap_value-old.ensures.swaps.updates.changed c.settle-new.ensures.calm
