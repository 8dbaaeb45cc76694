use Rattle.std.proofs.Common.{◌≡◌, List, ℕ, true, false, not, is_some, sym, subst, ◌∙◌, refl}
use Rattle.std.specs.FinMap.{get}
use Rattle.object_codec.specs.Forms.{IsLeast}
use Rattle.hash_object.specs.Fields.{fields, form_of}
use Rattle.hash_object.specs.Maps.{FitsFields}
use Rattle.rdb_grammar.specs.Elements.{Map}
use Rattle.rdb_reader.proofs.Unpacked.{field_joins, field_joins_twice}
use Rattle.rdb_reader.proofs.Rising.{field_least, fresh_none}
use Rattle.rdb_reader.proofs.pairs.set_pair.Goals as goal

pub returns-in-Ok-true-clause-makes : goal.returns-in-Ok-true-clause-makes
returns-in-Ok-true-clause-makes g c =
    let old = fields (g.B.BlockStore.blocks c.args.store.now) c.args.fields.now in
    let new = fields (g.B.BlockStore.blocks c.set.new.store) c.set.new.self in
    let fresh : true ≡ not (is_some (get old c.args.field.now)) = sym c.in-Ok-true.field-0-test ∙ c.in-Ok-true.ensures.there in
    field_joins old new (c.args.field.now, c.args.value.now) fresh c.in-Ok-true.ensures.set.fields_are

pub returns-in-Ok-true-clause-form : goal.returns-in-Ok-true-clause-form
returns-in-Ok-true-clause-form g c least =
    let old = fields (g.B.BlockStore.blocks c.args.store.now) c.args.fields.now in
    subst (λ (ms : Map (List ℕ)). IsLeast (FitsFields c.args.fields.now.limits ms) (form_of c.set.new.self)) (sym c.in-Ok-true.ensures.set.fields_are)
    (field_least c.args.fields.now.limits old c.args.field.now c.args.value.now (form_of c.args.fields.now) (form_of c.set.new.self)
    (fresh_none (get old c.args.field.now) (sym c.in-Ok-true.field-0-test ∙ c.in-Ok-true.ensures.there)) least c.in-Ok-true.ensures.form)

pub returns-in-Ok-false-clause-makes : goal.returns-in-Ok-false-clause-makes
returns-in-Ok-false-clause-makes g c =
    let old = fields (g.B.BlockStore.blocks c.args.store.now) c.args.fields.now in
    let there : false ≡ not (is_some (get old c.args.field.now)) = sym c.in-Ok-false.field-0-test ∙ c.in-Ok-false.ensures.there in
    rw c.twice.ensures (field_joins_twice old (c.args.field.now, c.args.value.now) there, refl)

pub set-requires : goal.set-requires
set-requires g c = c.requires

pub returns-in-Ok-true-clause-sound : goal.returns-in-Ok-true-clause-sound
returns-in-Ok-true-clause-sound g c = c.in-Ok-true.ensures.set.sound

pub returns-in-Ok-true-clause-settings : goal.returns-in-Ok-true-clause-settings
returns-in-Ok-true-clause-settings g c = c.in-Ok-true.ensures.set.settings

pub returns-in-Ok-true-clause-changes : goal.returns-in-Ok-true-clause-changes
returns-in-Ok-true-clause-changes g c = c.in-Ok-true.ensures.set.changes

pub returns-in-Ok-true-clause-served : goal.returns-in-Ok-true-clause-served
returns-in-Ok-true-clause-served g c = c.set.ensures.served

pub returns-in-Ok-false-clause-sound : goal.returns-in-Ok-false-clause-sound
returns-in-Ok-false-clause-sound g c = c.in-Ok-false.ensures.set.sound

pub returns-in-Ok-false-clause-settings : goal.returns-in-Ok-false-clause-settings
returns-in-Ok-false-clause-settings g c = c.in-Ok-false.ensures.set.settings

pub returns-in-Ok-false-clause-changes : goal.returns-in-Ok-false-clause-changes
returns-in-Ok-false-clause-changes g c = c.in-Ok-false.ensures.set.changes

pub returns-in-Ok-false-clause-served : goal.returns-in-Ok-false-clause-served
returns-in-Ok-false-clause-served g c = c.set.ensures.served

pub returns-in-Ok-false-clause-form : goal.returns-in-Ok-false-clause-form
returns-in-Ok-false-clause-form g c = tt

pub returns-in-Err-clause-form : goal.returns-in-Err-clause-form
returns-in-Err-clause-form g c = tt

pub returns-in-Err-clause-makes : goal.returns-in-Err-clause-makes
returns-in-Err-clause-makes g c = tt

pub returns-in-Err-clause-served : goal.returns-in-Err-clause-served
returns-in-Err-clause-served g c = c.set.ensures.served
