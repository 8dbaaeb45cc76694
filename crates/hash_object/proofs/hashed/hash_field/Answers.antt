use Rattle.std.proofs.Common.{refl}
use Rattle.blocks.proofs.Serve.{served_then}
use Rattle.hash_object.proofs.Tables.{put_keyed, put_lacks, put_hashed}
use Rattle.hash_object.proofs.hashed.hash_field.Goals as goal

pub insert-requires-clause-keyed : goal.insert-requires-clause-keyed
insert-requires-clause-keyed g c =
    let e = c.in_ok-key.ensures in
    put_keyed (g.B.BlockStore.blocks c.args.store.now) (g.B.BlockStore.blocks c.place_entry.new.store) c.args.table.now c.in_ok-key.key c.in_ok-key.at c.args.field.now c.args.value.now
    c.requires.keyed c.requires.owned e.changes e.field e.value

pub insert-requires-clause-absent : goal.insert-requires-clause-absent
insert-requires-clause-absent g c =
    let e = c.in_ok-key.ensures in
    put_lacks (g.B.BlockStore.blocks c.args.store.now) (g.B.BlockStore.blocks c.place_entry.new.store) c.args.table.now c.in_ok-key.key c.in_ok-key.at c.args.field.now c.args.value.now
    c.requires.keyed c.requires.owned e.changes e.field e.value c.requires.absent

pub returns-in-Ok-clause-hashed : goal.returns-in-Ok-clause-hashed
returns-in-Ok-clause-hashed g c =
    let e = c.in_ok-key.ensures in
    put_hashed (g.B.BlockStore.blocks c.args.store.now) (g.B.BlockStore.blocks c.place_entry.new.store) c.args.table.now c.in_ok-key.key c.in_ok-key.at c.args.field.now c.args.value.now
    c.requires.keyed c.requires.owned e.changes e.field e.value
    c.insert.new.self c.in-Ok.field-0 _ refl refl c.in-Ok.ensures.added c.in-Ok.ensures.keyed c.in-Ok.ensures.grown

pub returns-in-Err-clause-served : goal.returns-in-Err-clause-served
returns-in-Err-clause-served g c = served_then _ _ _ c.place_entry.ensures.served c.end_entry.ensures.served
