use Rattle.std.proofs.Common.{◌≡◌, [], sym, ap, subst}
use Rattle.std.specs.FinMap.{insert}
use Rattle.blocks.specs.Blocks.{Changes}
use Rattle.blocks.proofs.Serve.{served_then}
use Rattle.object_codec.specs.declared.form.Form.TheVariants.{Hashtable}
use Rattle.rehash_dict.specs.Keyed.{hash_of}
use Rattle.rehash_dict.specs.Grown.{Grown}
use Rattle.hash_object.specs.declared.fields.Body.{Body}
use Rattle.hash_object.specs.Fields.{IsChanged, fields, refs_of_body, form_of_body, tables_of}
use Rattle.hash_object.proofs.Bodies.{body_changed, packed_tables}
use Rattle.hash_object.proofs.fields.Fields.put_table.Goals as goal

pub returns-clause-set : goal.returns-clause-set
returns-clause-set g c =
    let m = g.B.BlockStore.blocks c.args.store.now in
    let mid = g.B.BlockStore.blocks c.place_table.new.store in
    let n = g.B.BlockStore.blocks c.release.new.store in
    let self = c.args.self.now in
    let map = insert (fields m self) c.args.field.now c.args.value.now in
    let p = c.in_ok-body.ensures.placed in
    let released : Changes mid n (refs_of_body self.body) [] = subst (λ (b : Body). Changes mid n (refs_of_body b) []) c.replace.ensures.value c.release.ensures.changes in
    let grown = subst (λ t. Grown (hash_of self.seed) t (tables_of mid c.in_ok-body.body)) (sym (packed_tables m self.body (λ t is. c.requires.packed (ap form_of_body is)))) p.grown in
    subst (λ (b : Body). IsChanged m n self (record self { body = b }) map) (sym c.replace.ensures.after)
    (body_changed m mid n self c.in_ok-body.body map c.requires.sound p.sound p.changes released p.fields_are grown)

pub returns-clause-form : goal.returns-clause-form
returns-clause-form g c = subst (λ (b : Body). form_of_body b ≡ Hashtable) (sym c.replace.ensures.after) c.in_ok-body.ensures.form

pub returns-clause-served : goal.returns-clause-served
returns-clause-served g c = served_then _ _ _ c.place_table.ensures.served c.release.ensures.served
