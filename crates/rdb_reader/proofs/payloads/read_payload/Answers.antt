use Rattle.std.proofs.Common.{sym, ap, subst, ◌∙◌, List}
use Rattle.blocks.specs.declared.BlockRef.{BlockRef}
use Rattle.blocks.specs.Blocks.{Changes}
use Rattle.object_codec.specs.declared.limits.Limits.{Limits}
use Rattle.object_codec.specs.Forms.{IsLeast}
use Rattle.plain_world.specs.Worlds.{SetOf, HashOf, SortedOf}
use Rattle.plain_world.specs.Worlds as model
use Rattle.set_object.specs.Members as set
use Rattle.hash_object.specs.Fields as hash
use Rattle.hash_object.specs.Maps.{FitsFields}
use Rattle.zset_object.specs.Scored as zset
use Rattle.zset_object.specs.Orders.{FitsScored}
use Rattle.keyspace.specs.declared.value.Value.{Value}
use Rattle.keyspace.specs.Values.{value_of, IsSound, value_refs}
use Rattle.rdb_grammar.specs.declared.values.Packed.{Packed}
use Rattle.rdb_grammar.specs.Format.{inside}
use Rattle.rdb_grammar.specs.Layouts.{held}
use Rattle.rdb_grammar.specs.Payloads.{pairs_on, scores_on}
use Rattle.rdb_grammar.specs.Strings.{string}
use Rattle.rdb_reader.specs.Building.{Reads}
use Rattle.rdb_reader.specs.Forms.{IsNew, Suits}
use Rattle.rdb_reader.proofs.Elements.{on_ok}
use Rattle.rdb_reader.proofs.payloads.read_payload.Goals as goal

pub read_members-requires-clause-members : goal.read_members-requires-clause-members
read_members-requires-clause-members g c = subst (λ (v : Value). Suits v c.args.packed) c.in-Set.is c.requires.suits

pub returns-in-Set-clause-fills : goal.returns-in-Set-clause-fills
returns-in-Set-clause-fills g c =
    let m = g.B.BlockStore.blocks c.args.store.now in
    let was = ap (value_of m) c.in-Set.is ∙ ap (λ x. SetOf (set.members m x)) (sym c.deref_mut.ensures.value) in
    subst
    (λ (v : model.Value). Reads (inside string (held c.args.packed v)) c.args.bytes.now c.args.at
    (SetOf (set.members (g.B.BlockStore.blocks c.read_members.new.store) c.read_members.new.members)) c.read_members.result) (sym was) c.read_members.ensures.fills

pub returns-in-Hash-clause-fills : goal.returns-in-Hash-clause-fills
returns-in-Hash-clause-fills g c =
    let m = g.B.BlockStore.blocks c.args.store.now in
    let new = HashOf (hash.fields (g.B.BlockStore.blocks c.read_fields.new.store) c.read_fields.new.fields) in
    let is = subst (λ (v : Value). Suits v c.args.packed) c.in-Hash.is c.requires.suits in
    let was = ap (value_of m) c.in-Hash.is ∙ ap (λ x. HashOf (hash.fields m x)) (sym c.deref_mut-in-Hash.ensures.value) in
    subst (λ (p : Packed). Reads (inside string (held p (value_of m c.args.value.now))) c.args.bytes.now c.args.at new c.read_fields.result) (sym is)
    (subst (λ (v : model.Value). Reads (inside string (pairs_on v)) c.args.bytes.now c.args.at new c.read_fields.result) (sym was) c.read_fields.ensures.fills)

pub returns-in-Zset-clause-fills : goal.returns-in-Zset-clause-fills
returns-in-Zset-clause-fills g c =
    let m = g.B.BlockStore.blocks c.args.store.now in
    let new = SortedOf (zset.scores (g.B.BlockStore.blocks c.read_scored.new.store) c.read_scored.new.scored) in
    let is = subst (λ (v : Value). Suits v c.args.packed) c.in-Zset.is c.requires.suits in
    let was = ap (value_of m) c.in-Zset.is ∙ ap (λ x. SortedOf (zset.scores m x)) (sym c.deref_mut-in-Zset.ensures.value) in
    subst (λ (p : Packed). Reads (inside string (held p (value_of m c.args.value.now))) c.args.bytes.now c.args.at new c.read_scored.result) (sym is)
    (subst (λ (v : model.Value). Reads (inside string (scores_on v)) c.args.bytes.now c.args.at new c.read_scored.result) (sym was) c.read_scored.ensures.fills)

pub returns-in-Zset-clause-form : goal.returns-in-Zset-clause-form
returns-in-Zset-clause-form g c = on_ok c.read_scored.result (λ rises. λ limits seed sound news.
    let m = g.B.BlockStore.blocks c.args.store.now in
    let now = zset.scores (g.B.BlockStore.blocks c.read_scored.new.store) c.read_scored.new.scored in
    let own = subst (λ (v : Value). IsSound limits seed m v) c.in-Zset.is sound in
    let same = c.deref_mut-in-Zset.ensures.value in
    let are = ap (λ x. x.limits) same ∙ own.1 in
    let least = subst (λ (v : Value). IsNew limits m v) c.in-Zset.is news in
    let first = subst (λ x. IsLeast (FitsScored limits (zset.scores m x)) (zset.form_of x)) (sym same) least in
    subst (λ (l : Limits). IsLeast (FitsScored l now) (zset.form_of c.read_scored.new.scored)) are
    (rises (subst (λ (l : Limits). IsLeast (FitsScored l (zset.scores m c.deref_mut-in-Zset.result.now)) (zset.form_of c.deref_mut-in-Zset.result.now)) (sym are) first))) c.read_scored.ensures.form

pub returns-in-Hash-clause-form : goal.returns-in-Hash-clause-form
returns-in-Hash-clause-form g c = on_ok c.read_fields.result (λ rises. λ limits seed sound news.
    let m = g.B.BlockStore.blocks c.args.store.now in
    let now = hash.fields (g.B.BlockStore.blocks c.read_fields.new.store) c.read_fields.new.fields in
    let own = subst (λ (v : Value). IsSound limits seed m v) c.in-Hash.is sound in
    let same = c.deref_mut-in-Hash.ensures.value in
    let are = ap (λ x. x.limits) same ∙ own.1 in
    let least = subst (λ (v : Value). IsNew limits m v) c.in-Hash.is news in
    let first = subst (λ x. IsLeast (FitsFields limits (hash.fields m x)) (hash.form_of x)) (sym same) least in
    subst (λ (l : Limits). IsLeast (FitsFields l now) (hash.form_of c.read_fields.new.fields)) are
    (rises (subst (λ (l : Limits). IsLeast (FitsFields l (hash.fields m c.deref_mut-in-Hash.result.now)) (hash.form_of c.deref_mut-in-Hash.result.now)) (sym are) first))) c.read_fields.ensures.form

pub read_members-requires-clause-sound : goal.read_members-requires-clause-sound
read_members-requires-clause-sound g c =
    let m = g.B.BlockStore.blocks c.args.store.now in
    let own = subst (λ (v : Value). IsSound c.requires.sound.0 c.requires.sound.1 m v) c.in-Set.is c.requires.sound.2 in
    subst (λ x. set.IsMembers m x) (sym c.deref_mut.ensures.value) own.0

pub read_members-requires-clause-at : goal.read_members-requires-clause-at
read_members-requires-clause-at g c = c.requires.at

pub returns-in-Set-clause-sound : goal.returns-in-Set-clause-sound
returns-in-Set-clause-sound g c limits seed sound =
    let m = g.B.BlockStore.blocks c.args.store.now in
    let own = subst (λ (v : Value). IsSound limits seed m v) c.in-Set.is sound in
    let same = c.deref_mut.ensures.value in
    (c.read_members.ensures.sound, c.read_members.ensures.settings.limits ∙ ap (λ x. x.limits) same ∙ own.1, c.read_members.ensures.settings.seed ∙ ap (λ x. x.seed) same ∙ own.2)

pub returns-in-Set-clause-changes : goal.returns-in-Set-clause-changes
returns-in-Set-clause-changes g c =
    let m = g.B.BlockStore.blocks c.args.store.now in
    let was = ap (value_refs m) c.in-Set.is ∙ ap (λ x. set.refs x) (sym c.deref_mut.ensures.value) in
    subst (λ (rs : List BlockRef). Changes m (g.B.BlockStore.blocks c.read_members.new.store) rs (set.refs c.read_members.new.members)) (sym was) c.read_members.ensures.changes

pub returns-in-Set-clause-served : goal.returns-in-Set-clause-served
returns-in-Set-clause-served g c = c.read_members.ensures.served

pub read_fields-requires-clause-sound : goal.read_fields-requires-clause-sound
read_fields-requires-clause-sound g c =
    let m = g.B.BlockStore.blocks c.args.store.now in
    let own = subst (λ (v : Value). IsSound c.requires.sound.0 c.requires.sound.1 m v) c.in-Hash.is c.requires.sound.2 in
    subst (λ x. hash.IsFields m x) (sym c.deref_mut-in-Hash.ensures.value) own.0

pub read_fields-requires-clause-at : goal.read_fields-requires-clause-at
read_fields-requires-clause-at g c = c.requires.at

pub returns-in-Hash-clause-sound : goal.returns-in-Hash-clause-sound
returns-in-Hash-clause-sound g c limits seed sound =
    let m = g.B.BlockStore.blocks c.args.store.now in
    let own = subst (λ (v : Value). IsSound limits seed m v) c.in-Hash.is sound in
    let same = c.deref_mut-in-Hash.ensures.value in
    (c.read_fields.ensures.sound, c.read_fields.ensures.settings.limits ∙ ap (λ x. x.limits) same ∙ own.1, c.read_fields.ensures.settings.seed ∙ ap (λ x. x.seed) same ∙ own.2)

pub returns-in-Hash-clause-changes : goal.returns-in-Hash-clause-changes
returns-in-Hash-clause-changes g c =
    let m = g.B.BlockStore.blocks c.args.store.now in
    let was = ap (value_refs m) c.in-Hash.is ∙ ap (λ x. hash.refs x) (sym c.deref_mut-in-Hash.ensures.value) in
    subst (λ (rs : List BlockRef). Changes m (g.B.BlockStore.blocks c.read_fields.new.store) rs (hash.refs c.read_fields.new.fields)) (sym was) c.read_fields.ensures.changes

pub returns-in-Hash-clause-served : goal.returns-in-Hash-clause-served
returns-in-Hash-clause-served g c = c.read_fields.ensures.served

pub read_scored-requires-clause-sound : goal.read_scored-requires-clause-sound
read_scored-requires-clause-sound g c =
    let m = g.B.BlockStore.blocks c.args.store.now in
    let own = subst (λ (v : Value). IsSound c.requires.sound.0 c.requires.sound.1 m v) c.in-Zset.is c.requires.sound.2 in
    subst (λ x. zset.IsScored m x) (sym c.deref_mut-in-Zset.ensures.value) own.0

pub read_scored-requires-clause-at : goal.read_scored-requires-clause-at
read_scored-requires-clause-at g c = c.requires.at

pub returns-in-Zset-clause-sound : goal.returns-in-Zset-clause-sound
returns-in-Zset-clause-sound g c limits seed sound =
    let m = g.B.BlockStore.blocks c.args.store.now in
    let own = subst (λ (v : Value). IsSound limits seed m v) c.in-Zset.is sound in
    let same = c.deref_mut-in-Zset.ensures.value in
    (c.read_scored.ensures.sound, c.read_scored.ensures.settings.limits ∙ ap (λ x. x.limits) same ∙ own.1, c.read_scored.ensures.settings.seed ∙ ap (λ x. x.seed) same ∙ own.2)

pub returns-in-Zset-clause-changes : goal.returns-in-Zset-clause-changes
returns-in-Zset-clause-changes g c =
    let m = g.B.BlockStore.blocks c.args.store.now in
    let was = ap (value_refs m) c.in-Zset.is ∙ ap (λ x. zset.refs x) (sym c.deref_mut-in-Zset.ensures.value) in
    subst (λ (rs : List BlockRef). Changes m (g.B.BlockStore.blocks c.read_scored.new.store) rs (zset.refs c.read_scored.new.scored)) (sym was) c.read_scored.ensures.changes

pub returns-in-Zset-clause-served : goal.returns-in-Zset-clause-served
returns-in-Zset-clause-served g c = c.read_scored.ensures.served
