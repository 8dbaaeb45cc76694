use Rattle.std.proofs.Common.{arith}
use Rattle.zset_object.proofs.Walks.{packed_at, packed_few, packed_last, linked_last}
use Rattle.zset_object.proofs.scored.Scored.next.Goals as goal

pub overflow_add-result : goal.overflow_add-result
overflow_add-result g c =
    let m = g.B.BlockStore.blocks c.args.store.now in
    let self = c.args.self.now in
    let few = packed_few m self.limits self.seed self.body c.args.cursor.now.rank c.args.cursor.now.place c.requires.sound.body c.requires.cursor c.in-Pack.packed c.bytes.result.now
    c.in-Packed.at c.in-Pack.is c.in-Packed.is c.bytes.ensures c.requires.sound.limits in
    omega (arith, few)

pub returns-in-None : goal.returns-in-None
returns-in-None g c =
    let m = g.B.BlockStore.blocks c.args.store.now in
    let self = c.args.self.now in
    let rank = c.args.cursor.now.rank in
    let place = c.args.cursor.now.place in
    packed_last m self.limits self.seed self.body rank place c.requires.sound.body c.requires.cursor c.in-Pack.packed c.bytes.result.now c.in-Packed.at c.in-Pack.is c.in-Packed.is c.bytes.ensures
    (c.in-None.ensures rank
    (packed_at m self.limits self.seed self.body rank place c.requires.sound.body c.requires.cursor c.in-Pack.packed c.bytes.result.now c.in-Packed.at c.in-Pack.is c.in-Packed.is
    c.bytes.ensures))

pub returns-in-None-next : goal.returns-in-None-next
returns-in-None-next g c =
    let m = g.B.BlockStore.blocks c.args.store.now in
    let self = c.args.self.now in
    linked_last m self.limits self.seed self.body c.args.cursor.now.rank c.args.cursor.now.place c.requires.sound.body c.requires.cursor c.in-Table.field-0 c.in-Linked-place.link
    c.in-Table.is c.in-Linked-place.is c.in-None-next.ensures
