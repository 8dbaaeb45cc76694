use Rattle.std.proofs.Common.{◌+◌, length, subst, arith}
use Rattle.object_codec.specs.declared.form.Form.{Form}
use Rattle.object_codec.specs.declared.form.Form.TheVariants.{Listpack, Skiplist}
use Rattle.object_codec.specs.Forms.{IsLeast, FitsZset}
use Rattle.std.specs.FinMap.{insert}
use Rattle.zset_object.specs.Orders.{IsRisen}
use Rattle.zset_object.specs.Scored.{scores, form_of}
use Rattle.zset_object.proofs.Placing.{place_count, place_few, place_rises, more_is, form_after}
use Rattle.zset_object.proofs.scored.Scored.put_with.Goals as goal

pub overflow_add-count : goal.overflow_add-count
overflow_add-count g c =
    let m = g.B.BlockStore.blocks c.args.store.now in
    let self = c.args.self.now in
    let r = c.requires in
    let few = place_few m self c.args.member.now c.args.score c.args.index r.sound r.packed r.index c.len.result c.from.result (c.len.ensures m r.sound)
    (more_is c.args.index c.is_none.result c.from.result c.is_none.ensures c.from.ensures) in
    omega (arith, few)

pub put_pack-requires-clause-count : goal.put_pack-requires-clause-count
put_pack-requires-clause-count g c =
    let m = g.B.BlockStore.blocks c.args.store.now in
    let r = c.requires in
    place_count m c.args.self.now c.args.member.now _ c.args.index r.sound r.packed r.index c.len.result c.from.result (c.len.ensures m r.sound)
    (more_is c.args.index c.is_none.result c.from.result c.is_none.ensures c.from.ensures)

pub returns-in-Listpack-clause-form : goal.returns-in-Listpack-clause-form
returns-in-Listpack-clause-form g c =
    let m = g.B.BlockStore.blocks c.args.store.now in
    let self = c.args.self.now in
    let r = c.requires in
    let count = place_count m self c.args.member.now c.args.score c.args.index r.sound r.packed r.index c.len.result c.from.result (c.len.ensures m r.sound)
    (more_is c.args.index c.is_none.result c.from.result c.is_none.ensures c.from.ensures) in
    let least : IsLeast (FitsZset self.limits (c.len.result + c.from.result) (length c.args.member.now)) Listpack =
    subst (λ (f : Form). IsLeast (FitsZset self.limits (c.len.result + c.from.result) (length c.args.member.now)) f) c.in-Listpack.is c.zset_form.ensures in
    form_after c.put_pack.result Listpack (form_of c.put_pack.new.self) (λ f. IsRisen self.limits (form_of self) (insert (scores m self) c.args.member.now c.args.score) f)
    (place_rises m self c.args.member.now c.args.score c.args.index r.sound r.packed r.index (c.len.result + c.from.result) Listpack count least) c.put_pack.ensures.form

pub returns-in-Skiplist-clause-form : goal.returns-in-Skiplist-clause-form
returns-in-Skiplist-clause-form g c =
    let m = g.B.BlockStore.blocks c.args.store.now in
    let self = c.args.self.now in
    let r = c.requires in
    let count = place_count m self c.args.member.now c.args.score c.args.index r.sound r.packed r.index c.len.result c.from.result (c.len.ensures m r.sound)
    (more_is c.args.index c.is_none.result c.from.result c.is_none.ensures c.from.ensures) in
    let least : IsLeast (FitsZset self.limits (c.len.result + c.from.result) (length c.args.member.now)) Skiplist =
    subst (λ (f : Form). IsLeast (FitsZset self.limits (c.len.result + c.from.result) (length c.args.member.now)) f) c.in-Skiplist.is c.zset_form.ensures in
    form_after c.put_table.result Skiplist (form_of c.put_table.new.self) (λ f. IsRisen self.limits (form_of self) (insert (scores m self) c.args.member.now c.args.score) f)
    (place_rises m self c.args.member.now c.args.score c.args.index r.sound r.packed r.index (c.len.result + c.from.result) Skiplist count least) c.put_table.ensures.form
