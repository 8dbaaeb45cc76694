use Rattle.std.proofs.Common.{◌≡◌, [], ap, refl, sym, subst, ◌∙◌, Some, None, rules}
use Rattle.blocks.specs.Blocks.{no_blocks}
use Rattle.object_codec.specs.Forms.{IsLeast, FitsList}
use Rattle.quicklist.specs.Chain.{Chain, IsQuick, elements, refs}
use Rattle.plain_world.specs.Worlds.{ListOf, look}
use Rattle.keyspace.specs.declared.value.Value.TheVariants as kinds
use Rattle.keyspace.specs.Commands.{visible}
use Rattle.keyspace.specs.Scopes.{one_key}
use Rattle.keyspace.proofs.Running.{same_held}
use Rattle.cmd_lists.proofs.AtKeys.{refs_none, form_in, takes_there, list_new, list_there}
use Rattle.cmd_lists.proofs.changing.edit_list.Goals as goal

pub returns-in_err-new-in-None-clause-held : goal.returns-in_err-new-in-None-clause-held
returns-in_err-new-in-None-clause-held g c = same_held g.B.BlockStore.blocks g.B.BlockStore.step (one_key c.args.at.now.db c.args.key.now) c.args.keyspace.now c.requires.ready.sound

pub edit_new-requires-clause-blank : goal.edit_new-requires-clause-blank
edit_new-requires-clause-blank g c =
    let same : c.in_ok-new-in-None.field-0.value ≡ c.new.result = search rules in
    subst (λ (q : Chain). refs q ≡ []) (sym same) (refs_none _ (c.new.ensures.quick no_blocks).chain.owned)

pub edit_new-requires-clause-bare : goal.edit_new-requires-clause-bare
edit_new-requires-clause-bare g c = refl

pub edit_new-requires-clause-sound : goal.edit_new-requires-clause-sound
edit_new-requires-clause-sound g c =
    let same : c.in_ok-new-in-None.field-0.value ≡ c.new.result = search rules in
    subst (IsQuick (g.B.BlockStore.blocks c.args.keyspace.now.store)) (sym same) (c.new.ensures.quick (g.B.BlockStore.blocks c.args.keyspace.now.store))

pub edit_new-requires-clause-takes : goal.edit_new-requires-clause-takes
edit_new-requires-clause-takes g c =
    let m = g.B.BlockStore.blocks c.args.keyspace.now.store in
    let same : c.in_ok-new-in-None.field-0.value ≡ c.new.result = search rules in
    subst (g.E.ListEdit.takes c.args.on.now.edit) (sym (ap (elements m) same ∙ c.new.ensures.empty m)) (c.requires.takes None (rw c.in-None.is at c.requires.there))

pub edit_there-requires-clause-takes : goal.edit_there-requires-clause-takes
edit_there-requires-clause-takes g c =
    let is = rw c.in-Some.is at c.requires.there in
    takes_there (g.E.ListEdit.takes c.args.on.now.edit) (visible g.B.BlockStore.blocks c.args.keyspace.now c.args.at.now) c.args.key.now is.list is.has (c.requires.takes (Some is.list) is.has)

pub returns-in_ok-new-in-None-clause-edited : goal.returns-in_ok-new-in-None-clause-edited
returns-in_ok-new-in-None-clause-edited g c =
    let m = g.B.BlockStore.blocks c.args.keyspace.now.store in
    let same : c.in_ok-new-in-None.field-0.value ≡ c.new.result = search rules in
    let none : look (visible g.B.BlockStore.blocks c.args.keyspace.now c.args.at.now) c.args.key.now ≡ None = rw c.in-None.is at c.requires.there in
    list_new _ (g.E.ListEdit.makes c.args.on.now.edit c.edit_new.new.edit.edit) c.edit_new.new.edit.left c.args.on.now c.edit_new.new.edit g.B.BlockStore.blocks c.args.keyspace.now
    c.edit_new.new.keyspace c.args.at.now c.args.key.now (λ o n made. made)
    (kinds.List c.in_ok-new-in-None.field-0) (ap ListOf (ap (elements m) same ∙ c.new.ensures.empty m))
    (λ f e. subst (IsLeast (FitsList 7)) (ap (λ (q : Chain). q.form) (sym same) ∙ ap (form_in f) e) c.new.ensures.form) none c.edit_new.result c.edit_new.ensures.made

pub returns-in-Some-clause-edited : goal.returns-in-Some-clause-edited
returns-in-Some-clause-edited g c =
    list_there _ (g.E.ListEdit.makes c.args.on.now.edit c.edit_there.new.edit.edit) c.edit_there.new.edit.left c.args.on.now c.edit_there.new.edit g.B.BlockStore.blocks c.args.keyspace.now
    c.edit_there.new.keyspace c.args.at.now c.args.key.now (λ o n made. made) c.edit_there.result c.edit_there.ensures.edits
