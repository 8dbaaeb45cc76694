use Rattle.std.proofs.Common.{◌≡◌, [], ap, sym, subst, ◌∙◌, Some, None, rules}
use Rattle.object_codec.specs.Forms.{IsLeast}
use Rattle.object_codec.specs.Limits.{AreInRange}
use Rattle.hash_object.specs.Maps.{FitsFields}
use Rattle.hash_object.specs.Fields.{IsFields, fields, refs, form_of, tables}
use Rattle.hash_object.specs.declared.fields.Fields.{Fields}
use Rattle.std.specs.FinMap.{empty}
use Rattle.plain_world.specs.Worlds.{HashOf, look}
use Rattle.keyspace.specs.declared.value.Value.TheVariants as kinds
use Rattle.keyspace.specs.Commands.{visible}
use Rattle.keyspace.specs.Scopes.{one_key}
use Rattle.keyspace.proofs.Running.{same_held}
use Rattle.keyspace.proofs.Settles.{settles_new}
use Rattle.cmd_hashes.proofs.AtKeys.{form_in, takes_there, hash_new, hash_there}
use Rattle.cmd_hashes.proofs.changing.edit_hash.Goals as goal

pub new-hash-requires : goal.new-hash-requires
new-hash-requires g c = subst AreInRange (sym c.limits.ensures) c.requires.ready.sound.arranged.limits

pub returns-in_err-new-in-None-clause-held : goal.returns-in_err-new-in-None-clause-held
returns-in_err-new-in-None-clause-held g c = same_held g.B.BlockStore.blocks g.B.BlockStore.step (one_key c.args.at.now.db c.args.key.now) c.args.keyspace.now c.requires.ready.sound

pub edit_new-requires-clause-blank : goal.edit_new-requires-clause-blank
edit_new-requires-clause-blank g c =
    let same : c.in_ok-new-in-None.field-0.value ≡ c.new-hash.result = search rules in
    subst (λ (h : Fields). refs h ≡ []) (sym same) c.new-hash.ensures.refs

pub edit_new-requires-clause-bare : goal.edit_new-requires-clause-bare
edit_new-requires-clause-bare g c =
    let m = g.B.BlockStore.blocks c.args.keyspace.now.store in
    let same : c.in_ok-new-in-None.field-0.value ≡ c.new-hash.result = search rules in
    ap (tables m) same ∙ c.new-hash.ensures.tables m

pub edit_new-requires-clause-sound : goal.edit_new-requires-clause-sound
edit_new-requires-clause-sound g c =
    let same : c.in_ok-new-in-None.field-0.value ≡ c.new-hash.result = search rules in
    let m = g.B.BlockStore.blocks c.args.keyspace.now.store in (
      subst (IsFields m) (sym same) (c.new-hash.ensures.sound m),
      ap (λ (h : Fields). h.limits) same ∙ c.new-hash.ensures.limits ∙ c.limits.ensures,
      ap (λ (h : Fields). h.seed) same ∙ c.new-hash.ensures.seed ∙ c.seed.ensures,
    )

pub edit_new-requires-clause-takes : goal.edit_new-requires-clause-takes
edit_new-requires-clause-takes g c =
    let m = g.B.BlockStore.blocks c.args.keyspace.now.store in
    let same : c.in_ok-new-in-None.field-0.value ≡ c.new-hash.result = search rules in
    subst (g.E.HashEdit.takes c.args.on.now.edit) (sym (ap (fields m) same ∙ c.new-hash.ensures.empty m)) (c.requires.takes None (rw c.in-None.is at c.requires.there))

pub edit_there-requires-clause-takes : goal.edit_there-requires-clause-takes
edit_there-requires-clause-takes g c =
    let is = rw c.in-Some.is at c.requires.there in
    takes_there (g.E.HashEdit.takes c.args.on.now.edit) (visible g.B.BlockStore.blocks c.args.keyspace.now c.args.at.now) c.args.key.now is.fields is.has (c.requires.takes (Some is.fields) is.has)

pub returns-in_ok-new-in-None-clause-edited : goal.returns-in_ok-new-in-None-clause-edited
returns-in_ok-new-in-None-clause-edited g c =
    let m = g.B.BlockStore.blocks c.args.keyspace.now.store in
    let limits = c.args.keyspace.now.bases.limits in
    let same : c.in_ok-new-in-None.field-0.value ≡ c.new-hash.result = search rules in
    let none : look (visible g.B.BlockStore.blocks c.args.keyspace.now c.args.at.now) c.args.key.now ≡ None = rw c.in-None.is at c.requires.there in
    let by : c.new-hash.result.limits ≡ limits = c.new-hash.ensures.limits ∙ c.limits.ensures in
    let least : IsLeast (FitsFields limits empty) (form_of c.new-hash.result) = subst (λ l. IsLeast (FitsFields l empty) (form_of c.new-hash.result)) c.limits.ensures c.new-hash.ensures.form in
    hash_new _ (g.E.HashEdit.makes c.args.on.now.edit c.edit_new.new.edit.edit) c.edit_new.new.edit.left c.args.on.now c.edit_new.new.edit g.B.BlockStore.blocks c.args.keyspace.now
    c.edit_new.new.keyspace c.args.at.now c.args.key.now (λ o n made. made)
    (kinds.Hash c.in_ok-new-in-None.field-0) (ap HashOf (ap (fields m) same ∙ c.new-hash.ensures.empty m)) (ap (λ (h : Fields). Some h.limits) same ∙ ap Some by)
    (λ f e. subst (IsLeast (FitsFields limits empty)) (ap form_of (sym same) ∙ ap (form_in f) e) least) none c.edit_new.result c.edit_new.ensures.made

pub returns-in-Some-clause-edited : goal.returns-in-Some-clause-edited
returns-in-Some-clause-edited g c =
    hash_there _ (g.E.HashEdit.makes c.args.on.now.edit c.edit_there.new.edit.edit) c.edit_there.new.edit.left c.args.on.now c.edit_there.new.edit g.B.BlockStore.blocks c.args.keyspace.now
    c.edit_there.new.keyspace c.args.at.now c.args.key.now (λ o n made. made) c.requires.ready.sound c.edit_there.result c.edit_there.ensures.edits

pub returns-in_ok-new-in-None-clause-settles : goal.returns-in_ok-new-in-None-clause-settles
returns-in_ok-new-in-None-clause-settles g c =
    let none : look (visible g.B.BlockStore.blocks c.args.keyspace.now c.args.at.now) c.args.key.now ≡ None = rw c.in-None.is at c.requires.there in
    settles_new g.B.BlockStore.blocks c.args.at.now c.args.key.now c.args.keyspace.now c.edit_new.new.keyspace none c.edit_new.result

pub returns-in-Some-clause-settles : goal.returns-in-Some-clause-settles
returns-in-Some-clause-settles g c = c.edit_there.ensures.settles
