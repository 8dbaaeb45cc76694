use Rattle.std.proofs.Common.{◌≡◌, [], ap, sym, subst, ◌∙◌, Some, None, rules}
use Rattle.std.specs.FinMap.{empty}
use Rattle.object_codec.specs.Forms.{IsLeast}
use Rattle.set_object.specs.declared.members.Members as object
use Rattle.set_object.specs.Strings.{FitsMembers}
use Rattle.set_object.specs.Members.{IsMembers, members, refs, form_of, tables}
use Rattle.plain_world.specs.Worlds.{SetOf, look}
use Rattle.keyspace.specs.declared.value.Value.TheVariants as kinds
use Rattle.keyspace.specs.Commands.{visible}
use Rattle.keyspace.specs.Scopes.{one_key}
use Rattle.keyspace.proofs.Running.{same_held}
use Rattle.keyspace.proofs.Settles.{settles_new}
use Rattle.cmd_sets.proofs.AtKeys.{form_in, takes_there, set_new, set_there}
use Rattle.cmd_sets.proofs.changing.edit_set_at.Goals as goal

pub returns-in_err-new-in-None-clause-held : goal.returns-in_err-new-in-None-clause-held
returns-in_err-new-in-None-clause-held g c = same_held g.B.BlockStore.blocks g.B.BlockStore.step (one_key c.args.at.now.db c.args.key.now) c.args.keyspace.now c.requires.ready.sound

pub edit_new-requires-clause-blank : goal.edit_new-requires-clause-blank
edit_new-requires-clause-blank g c =
    let same : c.in_ok-new-in-None.field-0.value ≡ c.new-empty.result = search rules in
    subst (λ (s : object.Members). refs s ≡ []) (sym same) c.new-empty.ensures.refs

pub edit_new-requires-clause-bare : goal.edit_new-requires-clause-bare
edit_new-requires-clause-bare g c =
    let m = g.B.BlockStore.blocks c.args.keyspace.now.store in
    let same : c.in_ok-new-in-None.field-0.value ≡ c.new-empty.result = search rules in
    ap (tables m) same ∙ c.new-empty.ensures.tables m

pub edit_new-requires-clause-sound : goal.edit_new-requires-clause-sound
edit_new-requires-clause-sound g c =
    let m = g.B.BlockStore.blocks c.args.keyspace.now.store in
    let same : c.in_ok-new-in-None.field-0.value ≡ c.new-empty.result = search rules in
    subst (λ (s : object.Members). IsMembers m s × (s.limits ≡ c.args.keyspace.now.bases.limits) × (s.seed ≡ c.args.keyspace.now.bases.seed)) (sym same)
    (c.new-empty.ensures.sound m, c.new-empty.ensures.limits ∙ c.limits.ensures, c.new-empty.ensures.seed ∙ c.seed.ensures)

pub edit_new-requires-clause-takes : goal.edit_new-requires-clause-takes
edit_new-requires-clause-takes g c =
    let m = g.B.BlockStore.blocks c.args.keyspace.now.store in
    let same : c.in_ok-new-in-None.field-0.value ≡ c.new-empty.result = search rules in
    subst (g.E.SetEdit.takes c.args.on.now.edit) (sym (ap (members m) same ∙ c.new-empty.ensures.empty m)) (c.requires.takes None (rw c.in-None.is at c.requires.there))

pub edit_there-requires-clause-takes : goal.edit_there-requires-clause-takes
edit_there-requires-clause-takes g c =
    let is = rw c.in-Some.is at c.requires.there in
    takes_there (g.E.SetEdit.takes c.args.on.now.edit) (visible g.B.BlockStore.blocks c.args.keyspace.now c.args.at.now) c.args.key.now is.members is.has (c.requires.takes (Some is.members) is.has)

pub returns-in_ok-new-in-None-clause-edited : goal.returns-in_ok-new-in-None-clause-edited
returns-in_ok-new-in-None-clause-edited g c =
    let m = g.B.BlockStore.blocks c.args.keyspace.now.store in
    let same : c.in_ok-new-in-None.field-0.value ≡ c.new-empty.result = search rules in
    let none : look (visible g.B.BlockStore.blocks c.args.keyspace.now c.args.at.now) c.args.key.now ≡ None = rw c.in-None.is at c.requires.there in
    let limits = c.new-empty.ensures.limits ∙ c.limits.ensures in
    set_new _ (λ l. g.E.SetEdit.makes l c.args.on.now.edit c.edit_new.new.edit.edit) c.edit_new.new.edit.left c.args.on.now c.edit_new.new.edit g.B.BlockStore.blocks c.args.keyspace.now
    c.edit_new.new.keyspace c.args.at.now c.args.key.now (λ o n made. made)
    (kinds.Set c.in_ok-new-in-None.field-0) (ap SetOf (ap (members m) same ∙ c.new-empty.ensures.empty m)) (ap (λ (s : object.Members). Some s.limits) same ∙ ap Some limits)
    (λ f e. subst (λ l. IsLeast (FitsMembers l empty) f) c.limits.ensures
    (subst (IsLeast (FitsMembers c.limits.result empty)) (ap form_of (sym same) ∙ ap (form_in f) e) c.new-empty.ensures.form)) none c.edit_new.result c.edit_new.ensures.made

pub returns-in-Some-clause-edited : goal.returns-in-Some-clause-edited
returns-in-Some-clause-edited g c =
    set_there _ (λ l. g.E.SetEdit.makes l c.args.on.now.edit c.edit_there.new.edit.edit) c.edit_there.new.edit.left c.args.on.now c.edit_there.new.edit g.B.BlockStore.blocks
    c.args.keyspace.now c.edit_there.new.keyspace c.args.at.now c.args.key.now (λ o n made. made) c.requires.ready.sound c.edit_there.result c.edit_there.ensures.edits

pub returns-in_ok-new-in-None-clause-settles : goal.returns-in_ok-new-in-None-clause-settles
returns-in_ok-new-in-None-clause-settles g c =
    let none : look (visible g.B.BlockStore.blocks c.args.keyspace.now c.args.at.now) c.args.key.now ≡ None = rw c.in-None.is at c.requires.there in
    settles_new g.B.BlockStore.blocks c.args.at.now c.args.key.now c.args.keyspace.now c.edit_new.new.keyspace none c.edit_new.result

pub returns-in-Some-clause-settles : goal.returns-in-Some-clause-settles
returns-in-Some-clause-settles g c = c.edit_there.ensures.settles
