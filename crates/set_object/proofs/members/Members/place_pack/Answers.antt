use Rattle.std.proofs.Common.{◌+◌, Some, ap, ◌∙◌, arith}
use Rattle.blocks.specs.Blocks.{no_step, with_block}
use Rattle.set_object.specs.Members.{form_of, members, listed_of}
use Rattle.set_object.proofs.Sets.{len_put}
use Rattle.set_object.proofs.Packing.{pack_pushed}
use Rattle.set_object.proofs.Placing.{pack_placed, pack_room, listpack_packed}
use Rattle.set_object.proofs.members.Members.place_pack.Goals as goal

pub returns-in_err-bytes-clause-served : goal.returns-in_err-bytes-clause-served
returns-in_err-bytes-clause-served g c = no_step

pub returns-in_err-append-clause-served : goal.returns-in_err-append-clause-served
returns-in_err-append-clause-served g c = no_step

pub append-requires-clause-fits : goal.append-requires-clause-fits
append-requires-clause-fits g c =
    let m = g.B.BlockStore.blocks c.args.store.now in
    let self = c.args.self.now in
    pack_room m m self c.args.member.now c.requires.sound (listpack_packed self.limits (form_of self) _ c.requires.risen) c.requires.absent c.requires.risen c.in_ok-bytes.bytes.items
    c.in_ok-bytes.ensures

pub overflow_add-len : goal.overflow_add-len
overflow_add-len g c =
    let m = g.B.BlockStore.blocks c.args.store.now in
    let n = c.len-len.ensures m c.requires.sound in
    let more = len_put (members m c.args.self.now) c.args.member.now c.requires.absent in
    let most = c.requires.sound.limits.set_entries in
    omega (arith, n, more, most, c.requires.risen.fitting.0)

pub returns-clause-placed : goal.returns-clause-placed
returns-clause-placed g c =
    let m = g.B.BlockStore.blocks c.args.store.now in
    let n = g.B.BlockStore.blocks c.put_block.new.store in
    let self = c.args.self.now in
    let k = c.len-len.ensures m c.requires.sound in
    let pushed = pack_pushed (listed_of m self.body) c.in_ok-bytes.bytes.items c.append.new.pack.items c.args.member.now _ c.in_ok-bytes.ensures c.in_ok-append.ensures.entries
    c.in_ok-append.ensures.list in
    pack_placed m n self c.args.member.now c.requires.sound (listpack_packed self.limits (form_of self) _ c.requires.risen) c.requires.absent c.requires.risen c.in_ok-at.at
    (c.len-len.result + 1) c.append.new.pack.items
    (c.in_ok-at.ensures.placed ∙ ap (λ bytes. with_block m c.in_ok-at.at (Some bytes)) c.deref.ensures.value) c.in_ok-at.ensures.changes (omega (arith, k)) pushed
