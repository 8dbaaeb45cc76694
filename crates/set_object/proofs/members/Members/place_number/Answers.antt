use Rattle.std.proofs.Common.{◌+◌, Some, refl, ap, ◌∙◌, arith, w64}
use Rattle.std.proofs.lemmas.Int.{to_z-of_z}
use Rattle.blocks.specs.Blocks.{no_step, with_block}
use Rattle.int_text.specs.Decimal.{canonical}
use Rattle.set_object.specs.Members.{form_of, members}
use Rattle.set_object.proofs.Sets.{len_put}
use Rattle.set_object.proofs.Placing.{number_placed, intset_packed, add_new}
use Rattle.set_object.proofs.members.Members.place_number.Goals as goal

pub returns-in_err-bytes-clause-served : goal.returns-in_err-bytes-clause-served
returns-in_err-bytes-clause-served g c = no_step

pub returns-in_err-add-clause-served : goal.returns-in_err-add-clause-served
returns-in_err-add-clause-served g c = no_step

pub overflow_add-len : goal.overflow_add-len
overflow_add-len g c =
    let m = g.B.BlockStore.blocks c.args.store.now in
    let n = c.len-len.ensures m c.requires.sound in
    let more = len_put (members m c.args.self.now) (canonical c.args.n) c.requires.absent in
    let most = c.requires.sound.limits.set_intset in
    omega (arith, n, more, most, c.requires.risen.fitting.1)

pub returns-clause-placed : goal.returns-clause-placed
returns-clause-placed g c =
    let m = g.B.BlockStore.blocks c.args.store.now in
    let after = g.B.BlockStore.blocks c.put_block.new.store in
    let self = c.args.self.now in
    let k = c.len-len.ensures m c.requires.sound in
    let bytes = c.add.new.set.items in
    let f = to_z-of_z w64 c.args.n c.ranges.n in
    let new = add_new m self c.args.n c.in_ok-bytes.bytes.items c.add.result c.in_ok-add.field-0 c.requires.sound (intset_packed self.limits (form_of self) _ c.requires.risen)
    c.requires.absent c.in_ok-bytes.ensures c.in_ok-add.was (rw f at c.add.ensures.there.0) in
    number_placed m after self (canonical c.args.n) c.requires.sound (intset_packed self.limits (form_of self) _ c.requires.risen) c.requires.absent c.requires.risen c.in_ok-at.at
    (c.len-len.result + 1) c.args.n c.in_ok-bytes.bytes.items bytes
    (c.in_ok-at.ensures.placed ∙ ap (λ bs. with_block m c.in_ok-at.at (Some bs)) c.deref.ensures.value) c.in_ok-at.ensures.changes (omega (arith, k)) c.in_ok-bytes.ensures refl
    c.ranges.n.sfits c.add.ensures.intset (rw f at c.add.ensures.added new)
