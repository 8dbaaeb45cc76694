use Rattle.std.proofs.Common.{◌≡◌, ℕ, List, true, false, not, is_some, sym, ap, subst, ◌∙◌, refl}
use Rattle.std.specs.FinMap.{get, insert}
use Rattle.blocks.proofs.Change.{changes_same}
use Rattle.blocks.specs.Blocks.{Blocks, Changes, no_step}
use Rattle.hash_object.specs.declared.fields.Fields.{Fields}
use Rattle.object_codec.specs.Forms.{IsLeast}
use Rattle.plain_world.specs.Worlds.{HashOf}
use Rattle.hash_object.specs.Fields.{fields, form_of, refs, IsFields}
use Rattle.hash_object.specs.Maps.{FitsFields}
use Rattle.rdb_grammar.specs.Elements.{Map, with_one}
use Rattle.rdb_grammar.specs.Places.{Stands}
use Rattle.rdb_grammar.specs.Views.{text_of}
use Rattle.rdb_reader.proofs.Elements.{field_fails, field_twice, field_set, value_fails, none_fresh, some_there}
use Rattle.rdb_reader.proofs.Rising.{field_least, fresh_none}
use Rattle.rdb_reader.proofs.building.set_field.Goals as goal

pub returns-in-Err-clause-adds : goal.returns-in-Err-clause-adds
returns-in-Err-clause-adds g c = rw c.refused.ensures (field_fails c.args.bytes.now c.args.at c.in-Err.fault.kind c.in-Err.fault.at c.in-Err.ensures.fault _)

pub returns-in-Some-clause-adds : goal.returns-in-Some-clause-adds
returns-in-Some-clause-adds g c =
    let old = fields (g.B.BlockStore.blocks c.args.store.now) c.args.fields.now in
    let text = text_of c.in-Ok.read.0 in
    let there : false ≡ not (is_some (get old text)) = some_there (get old text) _ (ap (get old) (sym c.text-field.ensures) ∙ rw c.in-Some.is at c.get.ensures) in
    rw c.twice.ensures (field_twice c.args.bytes.now c.args.at c.in-Ok.read.1 text c.in-Ok.ensures.string old there)

pub returns-in-None-clause-adds : goal.returns-in-None-clause-adds
returns-in-None-clause-adds g c =
    let old = fields (g.B.BlockStore.blocks c.args.store.now) c.args.fields.now in
    let text = text_of c.in-Ok.read.0 in
    let fresh : true ≡ not (is_some (get old text)) = none_fresh (get old text) (ap (get old) (sym c.text-field.ensures) ∙ rw c.in-None.is at c.get.ensures) in
    rw c.refused-in-None.ensures
    (value_fails c.args.bytes.now c.args.at c.in-Ok.read.1 text c.in-Ok.ensures.string old c.in-Err-next_string.fault.kind c.in-Err-next_string.fault.at
    c.in-Err-next_string.ensures.fault fresh)

pub returns-in-Ok-true-clause-adds : goal.returns-in-Ok-true-clause-adds
returns-in-Ok-true-clause-adds g c =
    let old = fields (g.B.BlockStore.blocks c.args.store.now) c.args.fields.now in
    let new = fields (g.B.BlockStore.blocks c.set.new.store) c.set.new.self in
    let text = text_of c.in-Ok.read.0 in
    let fresh : true ≡ not (is_some (get old text)) = sym c.in-Ok-true.field-0-test ∙ c.in-Ok-true.ensures.there ∙ ap (λ t. not (is_some (get old t))) c.text-field.ensures in
    let is : new ≡ insert old text (text_of c.in-Ok-next_string.read.0) = c.in-Ok-true.ensures.set.fields_are ∙ (λ i. insert old (c.text-field.ensures i) (c.text.ensures i)) in
    subst (λ (ms : Map (List ℕ)). Stands (with_one (HashOf old)) (HashOf ms) c.args.bytes.now c.args.at c.in-Ok-next_string.read.1) (sym is)
    (field_set c.args.bytes.now c.args.at c.in-Ok.read.1 text c.in-Ok.ensures.string old (text_of c.in-Ok-next_string.read.0) c.in-Ok-next_string.read.1
    c.in-Ok-next_string.ensures.string fresh)

pub returns-in-Ok-true-clause-form : goal.returns-in-Ok-true-clause-form
returns-in-Ok-true-clause-form g c least =
    let old = fields (g.B.BlockStore.blocks c.args.store.now) c.args.fields.now in
    subst (λ (ms : Map (List ℕ)). IsLeast (FitsFields c.args.fields.now.limits ms) (form_of c.set.new.self)) (sym c.in-Ok-true.ensures.set.fields_are)
    (field_least c.args.fields.now.limits old c.text-field.result.now c.text.result.now (form_of c.args.fields.now) (form_of c.set.new.self)
    (fresh_none (get old c.text-field.result.now) (sym c.in-Ok-true.field-0-test ∙ c.in-Ok-true.ensures.there)) least c.in-Ok-true.ensures.form)

pub returns-in-Ok-false-clause-adds : goal.returns-in-Ok-false-clause-adds
returns-in-Ok-false-clause-adds g c =
    let old = fields (g.B.BlockStore.blocks c.args.store.now) c.args.fields.now in
    let text = text_of c.in-Ok.read.0 in
    let there : false ≡ not (is_some (get old text)) = sym c.in-Ok-false.field-0-test ∙ c.in-Ok-false.ensures.there ∙ ap (λ t. not (is_some (get old t))) c.text-field.ensures in
    rw c.twice-in-Ok-false.ensures (field_twice c.args.bytes.now c.args.at c.in-Ok.read.1 text c.in-Ok.ensures.string old there)

pub next_string-requires : goal.next_string-requires
next_string-requires g c = c.requires.at

pub next_string-requires-2 : goal.next_string-requires-2
next_string-requires-2 g c = c.in-Ok.ensures.string.inside

pub get-requires : goal.get-requires
get-requires g c = c.requires.sound

pub set-requires : goal.set-requires
set-requires g c = c.requires.sound

pub returns-in-Err-clause-sound : goal.returns-in-Err-clause-sound
returns-in-Err-clause-sound g c = c.requires.sound

pub returns-in-Err-clause-settings : goal.returns-in-Err-clause-settings
returns-in-Err-clause-settings g c = record { limits = refl; seed = refl }

pub returns-in-Err-clause-form : goal.returns-in-Err-clause-form
returns-in-Err-clause-form g c = tt

pub returns-in-Err-clause-changes : goal.returns-in-Err-clause-changes
returns-in-Err-clause-changes g c = changes_same _ _ c.requires.sound.owned

pub returns-in-Err-clause-served : goal.returns-in-Err-clause-served
returns-in-Err-clause-served g c = no_step

pub returns-in-Some-clause-sound : goal.returns-in-Some-clause-sound
returns-in-Some-clause-sound g c = c.requires.sound

pub returns-in-Some-clause-settings : goal.returns-in-Some-clause-settings
returns-in-Some-clause-settings g c = record { limits = refl; seed = refl }

pub returns-in-Some-clause-form : goal.returns-in-Some-clause-form
returns-in-Some-clause-form g c = tt

pub returns-in-Some-clause-changes : goal.returns-in-Some-clause-changes
returns-in-Some-clause-changes g c = changes_same _ _ c.requires.sound.owned

pub returns-in-Some-clause-served : goal.returns-in-Some-clause-served
returns-in-Some-clause-served g c = no_step

pub returns-in-None-clause-sound : goal.returns-in-None-clause-sound
returns-in-None-clause-sound g c = c.requires.sound

pub returns-in-None-clause-settings : goal.returns-in-None-clause-settings
returns-in-None-clause-settings g c = record { limits = refl; seed = refl }

pub returns-in-None-clause-form : goal.returns-in-None-clause-form
returns-in-None-clause-form g c = tt

pub returns-in-None-clause-changes : goal.returns-in-None-clause-changes
returns-in-None-clause-changes g c = changes_same _ _ c.requires.sound.owned

pub returns-in-None-clause-served : goal.returns-in-None-clause-served
returns-in-None-clause-served g c = no_step

pub returns-in-Ok-true-clause-sound : goal.returns-in-Ok-true-clause-sound
returns-in-Ok-true-clause-sound g c = c.in-Ok-true.ensures.set.sound

pub returns-in-Ok-true-clause-settings : goal.returns-in-Ok-true-clause-settings
returns-in-Ok-true-clause-settings g c = c.in-Ok-true.ensures.set.settings

pub returns-in-Ok-true-clause-changes : goal.returns-in-Ok-true-clause-changes
returns-in-Ok-true-clause-changes g c = c.in-Ok-true.ensures.set.changes

pub returns-in-Ok-true-clause-served : goal.returns-in-Ok-true-clause-served
returns-in-Ok-true-clause-served g c = c.set.ensures.served

pub returns-in-Ok-false-clause-sound : goal.returns-in-Ok-false-clause-sound
returns-in-Ok-false-clause-sound g c = c.in-Ok-false.ensures.set.sound

pub returns-in-Ok-false-clause-settings : goal.returns-in-Ok-false-clause-settings
returns-in-Ok-false-clause-settings g c = c.in-Ok-false.ensures.set.settings

pub returns-in-Ok-false-clause-changes : goal.returns-in-Ok-false-clause-changes
returns-in-Ok-false-clause-changes g c = c.in-Ok-false.ensures.set.changes

pub returns-in-Ok-false-clause-served : goal.returns-in-Ok-false-clause-served
returns-in-Ok-false-clause-served g c = c.set.ensures.served

pub returns-in-Ok-false-clause-form : goal.returns-in-Ok-false-clause-form
returns-in-Ok-false-clause-form g c = tt

pub returns-in-Err-set-clause-adds : goal.returns-in-Err-set-clause-adds
returns-in-Err-set-clause-adds g c = tt

pub returns-in-Err-set-clause-sound : goal.returns-in-Err-set-clause-sound
returns-in-Err-set-clause-sound g c =
    subst (λ (x : Fields). IsFields (g.B.BlockStore.blocks c.set.new.store) x) (sym c.in-Err-set.ensures.err_fields)
    (subst (λ (b : Blocks). IsFields b c.args.fields.now) (sym c.in-Err-set.ensures.err_blocks) c.requires.sound)

pub returns-in-Err-set-clause-settings : goal.returns-in-Err-set-clause-settings
returns-in-Err-set-clause-settings g c =
    record { limits = ap (λ (x : Fields). x.limits) c.in-Err-set.ensures.err_fields; seed = ap (λ (x : Fields). x.seed) c.in-Err-set.ensures.err_fields }

pub returns-in-Err-set-clause-form : goal.returns-in-Err-set-clause-form
returns-in-Err-set-clause-form g c = tt

pub returns-in-Err-set-clause-changes : goal.returns-in-Err-set-clause-changes
returns-in-Err-set-clause-changes g c =
    let m = g.B.BlockStore.blocks c.args.store.now in
    let own = refs c.args.fields.now in
    subst (λ (z : Fields). Changes m (g.B.BlockStore.blocks c.set.new.store) own (refs z)) (sym c.in-Err-set.ensures.err_fields)
    (subst (λ (b : Blocks). Changes m b own own) (sym c.in-Err-set.ensures.err_blocks) (changes_same m own c.requires.sound.owned))

pub returns-in-Err-set-clause-served : goal.returns-in-Err-set-clause-served
returns-in-Err-set-clause-served g c = c.set.ensures.served
