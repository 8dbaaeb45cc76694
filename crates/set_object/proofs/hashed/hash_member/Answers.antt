use Rattle.std.proofs.Common.{refl}
use Rattle.blocks.proofs.Serve.{served_next}
use Rattle.set_object.proofs.Hashing.{put_keyed, put_lacks, put_hashed}
use Rattle.set_object.proofs.hashed.hash_member.Goals as goal

pub insert-requires-clause-keyed : goal.insert-requires-clause-keyed
insert-requires-clause-keyed g c =
    put_keyed (g.B.BlockStore.blocks c.args.store.now) (g.B.BlockStore.blocks c.put_block.new.store) c.in_ok-at.at c.args.member.now c.args.table.now c.requires.keyed
    c.in_ok-at.ensures.fresh c.in_ok-at.ensures.placed

pub insert-requires-clause-absent : goal.insert-requires-clause-absent
insert-requires-clause-absent g c =
    put_lacks (g.B.BlockStore.blocks c.args.store.now) (g.B.BlockStore.blocks c.put_block.new.store) c.in_ok-at.at c.args.member.now c.args.table.now c.requires.keyed
    c.in_ok-at.ensures.fresh c.in_ok-at.ensures.placed c.requires.absent

pub returns-in-Ok-clause-hashed : goal.returns-in-Ok-clause-hashed
returns-in-Ok-clause-hashed g c =
    put_hashed (g.B.BlockStore.blocks c.args.store.now) (g.B.BlockStore.blocks c.put_block.new.store) c.in_ok-at.at c.args.member.now c.args.table.now c.requires.keyed
    c.in_ok-at.ensures.fresh c.in_ok-at.ensures.placed
    c.insert.new.self c.in-Ok.field-0 _ refl c.in-Ok.ensures.added c.in-Ok.ensures.keyed c.in_ok-at.ensures.changes c.in-Ok.ensures.map c.in-Ok.ensures.grown

pub returns-in-Err-clause-served : goal.returns-in-Err-clause-served
returns-in-Err-clause-served g c = served_next _ _ _ c.put_block.ensures.served c.give_back.ensures.step
