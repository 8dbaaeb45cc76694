use Rattle.blocks.proofs.Serve.{served_next}
use Rattle.hash_object.proofs.Tables.{was_live, swap_hashed, swap_keyed}
use Rattle.hash_object.proofs.hashed.swap_value.Goals as goal

pub give_back-requires : goal.give_back-requires
give_back-requires g c =
    was_live (g.B.BlockStore.blocks c.args.store.now) (g.B.BlockStore.blocks c.put_block.new.store) (g.B.BlockStore.blocks c.put_block.new.store) c.args.table.now c.swap_value-old.new.self
    c.args.at c.swap_value-old.result c.in_ok-new.new c.args.value.now
    c.requires.keyed c.requires.owned c.in_ok-new.ensures.changes c.in_ok-new.ensures.placed c.swap_value-old.ensures.swaps

pub returns-clause-hashed : goal.returns-clause-hashed
returns-clause-hashed g c =
    let a = g.B.BlockStore.blocks c.put_block.new.store in
    let k = swap_keyed (g.B.BlockStore.blocks c.args.store.now) a a c.args.table.now c.swap_value-old.new.self c.args.at c.swap_value-old.result c.in_ok-new.new c.args.value.now
    c.requires.keyed c.requires.owned c.in_ok-new.ensures.changes c.in_ok-new.ensures.placed c.swap_value-old.ensures.swaps in
    swap_hashed (g.B.BlockStore.blocks c.args.store.now) a (g.B.BlockStore.blocks c.give_back.new.self) c.args.table.now c.swap_value-old.new.self c.args.at c.swap_value-old.result
    c.in_ok-new.new c.args.value.now
    c.requires.keyed c.requires.owned c.in_ok-new.ensures.changes c.in_ok-new.ensures.placed c.swap_value-old.ensures.swaps c.give_back.ensures.ended (c.swap_value-old.ensures.keyed a k)
    (c.swap_value-old.ensures.tables a)

pub returns-clause-served : goal.returns-clause-served
returns-clause-served g c = served_next _ _ _ c.put_block.ensures.served c.give_back.ensures.step
