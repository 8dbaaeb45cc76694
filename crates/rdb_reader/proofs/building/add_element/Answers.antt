use Rattle.std.proofs.Common.{sym, ap, subst, ◌∙◌, List}
use Rattle.blocks.specs.declared.BlockRef.{BlockRef}
use Rattle.blocks.specs.Blocks.{Changes, no_step}
use Rattle.blocks.proofs.Change.{changes_same}
use Rattle.object_codec.specs.declared.limits.Limits.{Limits}
use Rattle.object_codec.specs.Forms.{IsLeast, FitsList}
use Rattle.quicklist.specs.Nodes.{pack_len}
use Rattle.plain_world.specs.Worlds.{Str, ListOf, SetOf, HashOf, SortedOf, StreamOf}
use Rattle.plain_world.specs.Worlds as model
use Rattle.quicklist.specs.Chain as chain
use Rattle.set_object.specs.Members as set
use Rattle.hash_object.specs.Fields as hash
use Rattle.zset_object.specs.Scored as zset
use Rattle.zset_object.specs.Orders.{FitsScored}
use Rattle.keyspace.specs.declared.value.Value.{Value}
use Rattle.keyspace.specs.Values.{value_of, IsSound, value_refs}
use Rattle.rdb_reader.specs.Building.{Adds}
use Rattle.rdb_reader.specs.Forms.{IsNew}
use Rattle.rdb_reader.proofs.Elements.{nothing_added, on_ok}
use Rattle.rdb_reader.proofs.building.add_element.Goals as goal

pub returns-in-Text-clause-adds : goal.returns-in-Text-clause-adds
returns-in-Text-clause-adds g c = rw c.in-Text.is (nothing_added (Str _) c.args.bytes.now c.args.at c.requires.at)

pub returns-in-Text-clause-changes : goal.returns-in-Text-clause-changes
returns-in-Text-clause-changes g c = changes_same _ _ c.requires.owned

pub returns-in-Stream-clause-adds : goal.returns-in-Stream-clause-adds
returns-in-Stream-clause-adds g c = rw c.in-Stream.is (nothing_added (StreamOf _) c.args.bytes.now c.args.at c.requires.at)

pub returns-in-Stream-clause-changes : goal.returns-in-Stream-clause-changes
returns-in-Stream-clause-changes g c = changes_same _ _ c.requires.owned

pub returns-in-List-clause-adds : goal.returns-in-List-clause-adds
returns-in-List-clause-adds g c =
    let m = g.B.BlockStore.blocks c.args.store.now in
    let was = ap (value_of m) c.in-List.is ∙ ap (λ x. ListOf (chain.elements m x)) (sym c.deref_mut.ensures.value) in
    subst (λ (v : model.Value). Adds c.args.bytes.now c.args.at v (ListOf (chain.elements (g.B.BlockStore.blocks c.push_element.new.store) c.push_element.new.list)) c.push_element.result)
    (sym was) c.push_element.ensures.adds

pub returns-in-Set-clause-adds : goal.returns-in-Set-clause-adds
returns-in-Set-clause-adds g c =
    let m = g.B.BlockStore.blocks c.args.store.now in
    let was = ap (value_of m) c.in-Set.is ∙ ap (λ x. SetOf (set.members m x)) (sym c.deref_mut-in-Set.ensures.value) in
    subst (λ (v : model.Value). Adds c.args.bytes.now c.args.at v (SetOf (set.members (g.B.BlockStore.blocks c.add_member.new.store) c.add_member.new.members)) c.add_member.result)
    (sym was) c.add_member.ensures.adds

pub returns-in-Hash-clause-adds : goal.returns-in-Hash-clause-adds
returns-in-Hash-clause-adds g c =
    let m = g.B.BlockStore.blocks c.args.store.now in
    let was = ap (value_of m) c.in-Hash.is ∙ ap (λ x. HashOf (hash.fields m x)) (sym c.deref_mut-in-Hash.ensures.value) in
    subst (λ (v : model.Value). Adds c.args.bytes.now c.args.at v (HashOf (hash.fields (g.B.BlockStore.blocks c.set_field.new.store) c.set_field.new.fields)) c.set_field.result) (sym was)
    c.set_field.ensures.adds

pub returns-in-Zset-clause-adds : goal.returns-in-Zset-clause-adds
returns-in-Zset-clause-adds g c =
    let m = g.B.BlockStore.blocks c.args.store.now in
    let was = ap (value_of m) c.in-Zset.is ∙ ap (λ x. SortedOf (zset.scores m x)) (sym c.deref_mut-in-Zset.ensures.value) in
    subst (λ (v : model.Value). Adds c.args.bytes.now c.args.at v (SortedOf (zset.scores (g.B.BlockStore.blocks c.set_score.new.store) c.set_score.new.scored)) c.set_score.result)
    (sym was) c.set_score.ensures.adds

pub returns-in-Zset-clause-form : goal.returns-in-Zset-clause-form
returns-in-Zset-clause-form g c = on_ok c.set_score.result (λ rises. λ limits seed sound news.
    let m = g.B.BlockStore.blocks c.args.store.now in
    let now = zset.scores (g.B.BlockStore.blocks c.set_score.new.store) c.set_score.new.scored in
    let own = subst (λ (v : Value). IsSound limits seed m v) c.in-Zset.is sound in
    let same = c.deref_mut-in-Zset.ensures.value in
    let are = ap (λ x. x.limits) same ∙ own.1 in
    let least = subst (λ (v : Value). IsNew limits m v) c.in-Zset.is news in
    let first = subst (λ x. IsLeast (FitsScored limits (zset.scores m x)) (zset.form_of x)) (sym same) least in
    subst (λ (l : Limits). IsLeast (FitsScored l now) (zset.form_of c.set_score.new.scored)) are
    (rises (subst (λ (l : Limits). IsLeast (FitsScored l (zset.scores m c.deref_mut-in-Zset.result.now)) (zset.form_of c.deref_mut-in-Zset.result.now)) (sym are) first))) c.set_score.ensures.form

pub returns-in-List-clause-form : goal.returns-in-List-clause-form
returns-in-List-clause-form g c = on_ok c.push_element.result (λ rises. λ limits seed sound news.
    let m = g.B.BlockStore.blocks c.args.store.now in
    let same = c.deref_mut.ensures.value in
    let least = subst (λ (v : Value). IsNew limits m v) c.in-List.is news in
    rises (subst (λ x. IsLeast (FitsList (pack_len (chain.elements m x))) x.form) (sym same) least)) c.push_element.ensures.form

pub push_element-requires-clause-sound : goal.push_element-requires-clause-sound
push_element-requires-clause-sound g c =
    let m = g.B.BlockStore.blocks c.args.store.now in
    let own = subst (λ (v : Value). IsSound c.requires.sound.0 c.requires.sound.1 m v) c.in-List.is c.requires.sound.2 in
    subst (λ x. chain.IsQuick m x) (sym c.deref_mut.ensures.value) own

pub push_element-requires-clause-at : goal.push_element-requires-clause-at
push_element-requires-clause-at g c = c.requires.at

pub returns-in-List-clause-sound : goal.returns-in-List-clause-sound
returns-in-List-clause-sound g c limits seed sound = c.push_element.ensures.sound

pub returns-in-List-clause-changes : goal.returns-in-List-clause-changes
returns-in-List-clause-changes g c =
    let m = g.B.BlockStore.blocks c.args.store.now in
    let was = ap (value_refs m) c.in-List.is ∙ ap (λ x. chain.refs x) (sym c.deref_mut.ensures.value) in
    subst (λ (rs : List BlockRef). Changes m (g.B.BlockStore.blocks c.push_element.new.store) rs (chain.refs c.push_element.new.list)) (sym was) c.push_element.ensures.changes

pub returns-in-List-clause-served : goal.returns-in-List-clause-served
returns-in-List-clause-served g c = c.push_element.ensures.served

pub add_member-requires-clause-sound : goal.add_member-requires-clause-sound
add_member-requires-clause-sound g c =
    let m = g.B.BlockStore.blocks c.args.store.now in
    let own = subst (λ (v : Value). IsSound c.requires.sound.0 c.requires.sound.1 m v) c.in-Set.is c.requires.sound.2 in
    subst (λ x. set.IsMembers m x) (sym c.deref_mut-in-Set.ensures.value) own.0

pub add_member-requires-clause-at : goal.add_member-requires-clause-at
add_member-requires-clause-at g c = c.requires.at

pub returns-in-Set-clause-sound : goal.returns-in-Set-clause-sound
returns-in-Set-clause-sound g c limits seed sound =
    let m = g.B.BlockStore.blocks c.args.store.now in
    let own = subst (λ (v : Value). IsSound limits seed m v) c.in-Set.is sound in
    let same = c.deref_mut-in-Set.ensures.value in
    (c.add_member.ensures.sound, c.add_member.ensures.settings.limits ∙ ap (λ x. x.limits) same ∙ own.1, c.add_member.ensures.settings.seed ∙ ap (λ x. x.seed) same ∙ own.2)

pub returns-in-Set-clause-changes : goal.returns-in-Set-clause-changes
returns-in-Set-clause-changes g c =
    let m = g.B.BlockStore.blocks c.args.store.now in
    let was = ap (value_refs m) c.in-Set.is ∙ ap (λ x. set.refs x) (sym c.deref_mut-in-Set.ensures.value) in
    subst (λ (rs : List BlockRef). Changes m (g.B.BlockStore.blocks c.add_member.new.store) rs (set.refs c.add_member.new.members)) (sym was) c.add_member.ensures.changes

pub returns-in-Set-clause-served : goal.returns-in-Set-clause-served
returns-in-Set-clause-served g c = c.add_member.ensures.served

pub set_field-requires-clause-sound : goal.set_field-requires-clause-sound
set_field-requires-clause-sound g c =
    let m = g.B.BlockStore.blocks c.args.store.now in
    let own = subst (λ (v : Value). IsSound c.requires.sound.0 c.requires.sound.1 m v) c.in-Hash.is c.requires.sound.2 in
    subst (λ x. hash.IsFields m x) (sym c.deref_mut-in-Hash.ensures.value) own.0

pub set_field-requires-clause-at : goal.set_field-requires-clause-at
set_field-requires-clause-at g c = c.requires.at

pub returns-in-Hash-clause-sound : goal.returns-in-Hash-clause-sound
returns-in-Hash-clause-sound g c limits seed sound =
    let m = g.B.BlockStore.blocks c.args.store.now in
    let own = subst (λ (v : Value). IsSound limits seed m v) c.in-Hash.is sound in
    let same = c.deref_mut-in-Hash.ensures.value in
    (c.set_field.ensures.sound, c.set_field.ensures.settings.limits ∙ ap (λ x. x.limits) same ∙ own.1, c.set_field.ensures.settings.seed ∙ ap (λ x. x.seed) same ∙ own.2)

pub returns-in-Hash-clause-changes : goal.returns-in-Hash-clause-changes
returns-in-Hash-clause-changes g c =
    let m = g.B.BlockStore.blocks c.args.store.now in
    let was = ap (value_refs m) c.in-Hash.is ∙ ap (λ x. hash.refs x) (sym c.deref_mut-in-Hash.ensures.value) in
    subst (λ (rs : List BlockRef). Changes m (g.B.BlockStore.blocks c.set_field.new.store) rs (hash.refs c.set_field.new.fields)) (sym was) c.set_field.ensures.changes

pub returns-in-Hash-clause-served : goal.returns-in-Hash-clause-served
returns-in-Hash-clause-served g c = c.set_field.ensures.served

pub set_score-requires-clause-sound : goal.set_score-requires-clause-sound
set_score-requires-clause-sound g c =
    let m = g.B.BlockStore.blocks c.args.store.now in
    let own = subst (λ (v : Value). IsSound c.requires.sound.0 c.requires.sound.1 m v) c.in-Zset.is c.requires.sound.2 in
    subst (λ x. zset.IsScored m x) (sym c.deref_mut-in-Zset.ensures.value) own.0

pub set_score-requires-clause-at : goal.set_score-requires-clause-at
set_score-requires-clause-at g c = c.requires.at

pub returns-in-Zset-clause-sound : goal.returns-in-Zset-clause-sound
returns-in-Zset-clause-sound g c limits seed sound =
    let m = g.B.BlockStore.blocks c.args.store.now in
    let own = subst (λ (v : Value). IsSound limits seed m v) c.in-Zset.is sound in
    let same = c.deref_mut-in-Zset.ensures.value in
    (c.set_score.ensures.sound, c.set_score.ensures.settings.limits ∙ ap (λ x. x.limits) same ∙ own.1, c.set_score.ensures.settings.seed ∙ ap (λ x. x.seed) same ∙ own.2)

pub returns-in-Zset-clause-changes : goal.returns-in-Zset-clause-changes
returns-in-Zset-clause-changes g c =
    let m = g.B.BlockStore.blocks c.args.store.now in
    let was = ap (value_refs m) c.in-Zset.is ∙ ap (λ x. zset.refs x) (sym c.deref_mut-in-Zset.ensures.value) in
    subst (λ (rs : List BlockRef). Changes m (g.B.BlockStore.blocks c.set_score.new.store) rs (zset.refs c.set_score.new.scored)) (sym was) c.set_score.ensures.changes

pub returns-in-Zset-clause-served : goal.returns-in-Zset-clause-served
returns-in-Zset-clause-served g c = c.set_score.ensures.served

pub returns-in-Text-clause-sound : goal.returns-in-Text-clause-sound
returns-in-Text-clause-sound g c limits seed sound = sound

pub returns-in-Text-clause-form : goal.returns-in-Text-clause-form
returns-in-Text-clause-form g c limits seed sound news = news

pub returns-in-Text-clause-served : goal.returns-in-Text-clause-served
returns-in-Text-clause-served g c = no_step

pub returns-in-Stream-clause-sound : goal.returns-in-Stream-clause-sound
returns-in-Stream-clause-sound g c limits seed sound = sound

pub returns-in-Stream-clause-form : goal.returns-in-Stream-clause-form
returns-in-Stream-clause-form g c limits seed sound news = news

pub returns-in-Stream-clause-served : goal.returns-in-Stream-clause-served
returns-in-Stream-clause-served g c = no_step
