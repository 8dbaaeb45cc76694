use Rattle.std.proofs.Common.{sym, subst, arith}
use Rattle.std.specs.FinMap.{remove}
use Rattle.set_object.specs.Members.{IsPlacedBody, members}
use Rattle.set_object.proofs.Sets.{len_taken}
use Rattle.set_object.proofs.Bodies.{len_of}
use Rattle.set_object.proofs.Taking.{left_placed}
use Rattle.set_object.proofs.members.Members.place_left.Goals as goal

pub overflow_sub-len : goal.overflow_sub-len
overflow_sub-len g c =
    let m = g.B.BlockStore.blocks c.args.store.now in
    let k = c.len-len.ensures m c.requires.sound in
    omega (arith, k, len_taken (members m c.args.self.now) c.args.member.now c.requires.there)

pub returns-clause-placed : goal.returns-clause-placed
returns-clause-placed g c =
    let m = g.B.BlockStore.blocks c.args.store.now in
    let n = g.B.BlockStore.blocks c.put_block.new.store in
    let self = c.args.self.now in
    let x = c.args.member.now in
    let k = c.len-len.ensures m c.requires.sound in
    subst (λ b. IsPlacedBody m n self b (remove (members m self) x)) (sym c.packed_in.ensures)
    (left_placed m n self x c.requires.sound c.requires.there c.in_ok-at.at _ c.args.bytes.now c.in_ok-at.ensures.placed c.in_ok-at.ensures.changes
    (omega (arith, k, len_taken (members m self) x c.requires.there, len_of m self.limits self.seed self.body c.requires.sound.body)) c.requires.left)
