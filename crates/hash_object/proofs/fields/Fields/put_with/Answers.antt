use Rattle.std.proofs.Common.{◌+◌, max, length, subst, arith}
use Rattle.object_codec.specs.declared.form.Form.{Form}
use Rattle.object_codec.specs.declared.form.Form.TheVariants.{Listpack, Hashtable}
use Rattle.object_codec.specs.Forms.{IsLeast, FitsHash}
use Rattle.std.specs.FinMap.{insert}
use Rattle.hash_object.specs.Maps.{IsRisen}
use Rattle.hash_object.specs.Fields.{fields, form_of}
use Rattle.hash_object.proofs.Placing.{place_count, place_few, place_rises, more_is, form_after}
use Rattle.hash_object.proofs.fields.Fields.put_with.Goals as goal

pub overflow_add-count : goal.overflow_add-count
overflow_add-count g c =
    let m = g.B.BlockStore.blocks c.args.store.now in
    let self = c.args.self.now in
    let r = c.requires in
    let few = place_few m self c.args.field.now c.args.value.now c.args.index r.sound r.packed r.index c.len.result c.from.result (c.len.ensures m r.sound)
    (more_is c.args.index c.is_none.result c.from.result c.is_none.ensures c.from.ensures) in
    omega (arith, few)

pub put_pack-requires-clause-count : goal.put_pack-requires-clause-count
put_pack-requires-clause-count g c =
    let m = g.B.BlockStore.blocks c.args.store.now in
    let r = c.requires in
    place_count m c.args.self.now c.args.field.now c.args.value.now c.args.index r.sound r.packed r.index c.len.result c.from.result (c.len.ensures m r.sound)
    (more_is c.args.index c.is_none.result c.from.result c.is_none.ensures c.from.ensures)

pub returns-in-Listpack-clause-form : goal.returns-in-Listpack-clause-form
returns-in-Listpack-clause-form g c =
    let m = g.B.BlockStore.blocks c.args.store.now in
    let self = c.args.self.now in
    let r = c.requires in
    let count = place_count m self c.args.field.now c.args.value.now c.args.index r.sound r.packed r.index c.len.result c.from.result (c.len.ensures m r.sound)
    (more_is c.args.index c.is_none.result c.from.result c.is_none.ensures c.from.ensures) in
    let least : IsLeast (FitsHash self.limits (c.len.result + c.from.result) (max (length c.args.field.now) (length c.args.value.now))) Listpack =
    subst (λ (n : _). IsLeast (FitsHash self.limits (c.len.result + c.from.result) n) Listpack) c.max.ensures
    (subst (λ (f : Form). IsLeast (FitsHash self.limits (c.len.result + c.from.result) c.max.result) f) c.in-Listpack.is c.hash_form.ensures) in
    form_after c.put_pack.result Listpack (form_of c.put_pack.new.self) (λ f. IsRisen self.limits (form_of self) (insert (fields m self) c.args.field.now c.args.value.now) f)
    (place_rises m self c.args.field.now c.args.value.now c.args.index r.sound r.packed r.index (c.len.result + c.from.result) Listpack count least) c.put_pack.ensures.form

pub returns-in-Hashtable-clause-form : goal.returns-in-Hashtable-clause-form
returns-in-Hashtable-clause-form g c =
    let m = g.B.BlockStore.blocks c.args.store.now in
    let self = c.args.self.now in
    let r = c.requires in
    let count = place_count m self c.args.field.now c.args.value.now c.args.index r.sound r.packed r.index c.len.result c.from.result (c.len.ensures m r.sound)
    (more_is c.args.index c.is_none.result c.from.result c.is_none.ensures c.from.ensures) in
    let least : IsLeast (FitsHash self.limits (c.len.result + c.from.result) (max (length c.args.field.now) (length c.args.value.now))) Hashtable =
    subst (λ (n : _). IsLeast (FitsHash self.limits (c.len.result + c.from.result) n) Hashtable) c.max.ensures
    (subst (λ (f : Form). IsLeast (FitsHash self.limits (c.len.result + c.from.result) c.max.result) f) c.in-Hashtable.is c.hash_form.ensures) in
    form_after c.put_table.result Hashtable (form_of c.put_table.new.self) (λ f. IsRisen self.limits (form_of self) (insert (fields m self) c.args.field.now c.args.value.now) f)
    (place_rises m self c.args.field.now c.args.value.now c.args.index r.sound r.packed r.index (c.len.result + c.from.result) Hashtable count least) c.put_table.ensures.form
