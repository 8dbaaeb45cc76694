use Rattle.std.proofs.Common.{◌≡◌, [], ap, sym, subst, ◌∙◌, Some, None, rules}
use Rattle.object_codec.specs.Forms.{IsLeast}
use Rattle.object_codec.specs.Limits.{AreInRange}
use Rattle.zset_object.specs.Orders.{FitsScored}
use Rattle.zset_object.specs.Scored.{IsScored, scores, refs, form_of, tables}
use Rattle.zset_object.specs.declared.scored.Scored.{Scored}
use Rattle.std.specs.FinMap.{empty}
use Rattle.plain_world.specs.Worlds.{SortedOf, look}
use Rattle.keyspace.specs.declared.value.Value.TheVariants as kinds
use Rattle.keyspace.specs.Commands.{visible}
use Rattle.keyspace.specs.Scopes.{one_key}
use Rattle.keyspace.proofs.Running.{same_held}
use Rattle.keyspace.proofs.Settles.{settles_new}
use Rattle.cmd_zsets.proofs.AtKeys.{form_in, takes_there, zset_new, zset_there}
use Rattle.cmd_zsets.proofs.changing.edit_zset.Goals as goal

pub new-zset-requires : goal.new-zset-requires
new-zset-requires g c = subst AreInRange (sym c.limits.ensures) c.requires.ready.sound.arranged.limits

pub returns-in_err-new-in-None-clause-held : goal.returns-in_err-new-in-None-clause-held
returns-in_err-new-in-None-clause-held g c = same_held g.B.BlockStore.blocks g.B.BlockStore.step (one_key c.args.at.now.db c.args.key.now) c.args.keyspace.now c.requires.ready.sound

pub edit_new-requires-clause-blank : goal.edit_new-requires-clause-blank
edit_new-requires-clause-blank g c =
    let same : c.in_ok-new-in-None.field-0.value ≡ c.new-zset.result = search rules in
    subst (λ (h : Scored). refs h ≡ []) (sym same) c.new-zset.ensures.refs

pub edit_new-requires-clause-bare : goal.edit_new-requires-clause-bare
edit_new-requires-clause-bare g c =
    let m = g.B.BlockStore.blocks c.args.keyspace.now.store in
    let same : c.in_ok-new-in-None.field-0.value ≡ c.new-zset.result = search rules in
    ap (tables m) same ∙ c.new-zset.ensures.tables m

pub edit_new-requires-clause-sound : goal.edit_new-requires-clause-sound
edit_new-requires-clause-sound g c =
    let same : c.in_ok-new-in-None.field-0.value ≡ c.new-zset.result = search rules in
    let m = g.B.BlockStore.blocks c.args.keyspace.now.store in (
      subst (IsScored m) (sym same) (c.new-zset.ensures.sound m),
      ap (λ (h : Scored). h.limits) same ∙ c.new-zset.ensures.limits ∙ c.limits.ensures,
      ap (λ (h : Scored). h.seed) same ∙ c.new-zset.ensures.seed ∙ c.seed.ensures,
    )

pub edit_new-requires-clause-takes : goal.edit_new-requires-clause-takes
edit_new-requires-clause-takes g c =
    let m = g.B.BlockStore.blocks c.args.keyspace.now.store in
    let same : c.in_ok-new-in-None.field-0.value ≡ c.new-zset.result = search rules in
    subst (g.E.ZsetEdit.takes c.args.on.now.edit) (sym (ap (scores m) same ∙ c.new-zset.ensures.empty m)) (c.requires.takes None (rw c.in-None.is at c.requires.there))

pub edit_there-requires-clause-takes : goal.edit_there-requires-clause-takes
edit_there-requires-clause-takes g c =
    let is = rw c.in-Some.is at c.requires.there in
    takes_there (g.E.ZsetEdit.takes c.args.on.now.edit) (visible g.B.BlockStore.blocks c.args.keyspace.now c.args.at.now) c.args.key.now is.scores is.has (c.requires.takes (Some is.scores) is.has)

pub returns-in_ok-new-in-None-clause-edited : goal.returns-in_ok-new-in-None-clause-edited
returns-in_ok-new-in-None-clause-edited g c =
    let m = g.B.BlockStore.blocks c.args.keyspace.now.store in
    let limits = c.args.keyspace.now.bases.limits in
    let same : c.in_ok-new-in-None.field-0.value ≡ c.new-zset.result = search rules in
    let none : look (visible g.B.BlockStore.blocks c.args.keyspace.now c.args.at.now) c.args.key.now ≡ None = rw c.in-None.is at c.requires.there in
    let by : c.new-zset.result.limits ≡ limits = c.new-zset.ensures.limits ∙ c.limits.ensures in
    let least : IsLeast (FitsScored limits empty) (form_of c.new-zset.result) = subst (λ l. IsLeast (FitsScored l empty) (form_of c.new-zset.result)) c.limits.ensures c.new-zset.ensures.form in
    zset_new _ (g.E.ZsetEdit.makes c.args.on.now.edit c.edit_new.new.edit.edit) c.edit_new.new.edit.left c.args.on.now c.edit_new.new.edit g.B.BlockStore.blocks c.args.keyspace.now
    c.edit_new.new.keyspace c.args.at.now c.args.key.now (λ o n made. made)
    (kinds.Zset c.in_ok-new-in-None.field-0) (ap SortedOf (ap (scores m) same ∙ c.new-zset.ensures.empty m)) (ap (λ (h : Scored). Some h.limits) same ∙ ap Some by)
    (λ f e. subst (IsLeast (FitsScored limits empty)) (ap form_of (sym same) ∙ ap (form_in f) e) least) none c.edit_new.result c.edit_new.ensures.made

pub returns-in-Some-clause-edited : goal.returns-in-Some-clause-edited
returns-in-Some-clause-edited g c =
    zset_there _ (g.E.ZsetEdit.makes c.args.on.now.edit c.edit_there.new.edit.edit) c.edit_there.new.edit.left c.args.on.now c.edit_there.new.edit g.B.BlockStore.blocks c.args.keyspace.now
    c.edit_there.new.keyspace c.args.at.now c.args.key.now (λ o n made. made) c.requires.ready.sound c.edit_there.result c.edit_there.ensures.edits

pub returns-in_ok-new-in-None-clause-settles : goal.returns-in_ok-new-in-None-clause-settles
returns-in_ok-new-in-None-clause-settles g c =
    let none : look (visible g.B.BlockStore.blocks c.args.keyspace.now c.args.at.now) c.args.key.now ≡ None = rw c.in-None.is at c.requires.there in
    settles_new g.B.BlockStore.blocks c.args.at.now c.args.key.now c.args.keyspace.now c.edit_new.new.keyspace none c.edit_new.result

pub returns-in-Some-clause-settles : goal.returns-in-Some-clause-settles
returns-in-Some-clause-settles g c = c.edit_there.ensures.settles
