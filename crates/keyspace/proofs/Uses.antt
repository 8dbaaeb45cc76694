-- For whoever calls a keyspace: what a command function needs to say that the keyspace is sound after it, and which
-- world it leaves. Each lemma takes the clauses of the calls as they stand.
use Rattle.std.proofs.Common.{◌≡◌, ℕ, ◌+◌, ◌≤◌, List, [], ◌++◌, map, Option, refl, sym, ap, ◌∙◌, subst, lit<}
use Rattle.blocks.specs.declared.BlockRef.{BlockRef}
use Rattle.blocks.specs.Blocks.{Blocks, times, Changes, Owned}
use Rattle.plain_world.specs.Worlds.{Entry, put, stand}
use Rattle.plain_world.specs.Worlds as model
use Rattle.std.specs.List.{Contains}
use Rattle.object_codec.specs.declared.name.Name.{Name}
use Rattle.object_codec.specs.declared.name.Name.TheVariants.{Int, Embstr, Raw}
use Rattle.object_codec.specs.Names.{name_text}
use Rattle.plain_model.specs.KeySteps.{encodings}
use Rattle.object_codec.specs.declared.limits.Limits.{Limits}
use Rattle.object_codec.specs.declared.form.Form.{Form}
use Rattle.object_codec.specs.declared.form.Form.TheVariants.{Intset, Listpack, Hashtable, Skiplist, Quicklist, Stream}
use Rattle.object_codec.specs.Forms.{form_text}
use Rattle.quicklist.specs.declared.node.Container.{Container}
use Rattle.quicklist.specs.Nodes.{container_of}
use Rattle.quicklist.specs.Chain.{IsFormed, elements}
use Rattle.set_object.specs.Strings.{Strings}
use Rattle.set_object.specs.Members as set
use Rattle.set_object.specs.declared.members.Body as set_body
use Rattle.set_object.specs.declared.members.Body.TheVariants as set_bodies
use Rattle.hash_object.specs.Maps.{FieldMap}
use Rattle.hash_object.specs.Fields as hash
use Rattle.hash_object.specs.declared.fields.Body as hash_body
use Rattle.hash_object.specs.declared.fields.Body.TheVariants as hash_bodies
use Rattle.score_table.specs.Ranking.{ScoreMap}
use Rattle.zset_object.specs.Scored as zset
use Rattle.zset_object.specs.declared.scored.Body as zset_body
use Rattle.zset_object.specs.declared.scored.Body.TheVariants as zset_bodies
use Rattle.stream_object.specs.declared.stream.Stream.{Stream as Log}
use Rattle.stream_object.specs.Streams.{stream_of}
use Rattle.keyspace.specs.declared.value.Value.TheVariants as kinds
use Rattle.string_object.specs.declared.text.Text as texts
use Rattle.string_object.specs.Text.{text_bytes, text_refs}
use Rattle.keyspace.specs.declared.value.Value.{Value}
use Rattle.keyspace.specs.declared.value.Value.TheVariants.{Text, Set, Hash, Zset}
use Rattle.keyspace.specs.Values.{value_of, value_refs, IsSound, value_own, vacant, IsEncodedAs}
use Rattle.keyspace.specs.Databases.{Bases, SameSettings, means}
use Rattle.keyspace.specs.Sound.{IsArranged, IsIntact, IsIntactWith, Sound, SoundBeside}
use Rattle.keyspace.specs.Scopes.{Scope, one_key, Within}
use Rattle.held.specs.Calls.{HasValue, HasOnly}
use Rattle.keyspace.specs.Calls.{Lifted, IsPlace, IsVacant, Lifts, AreParts}
use Rattle.held.proofs.Bases.{sound_intact}
use Rattle.held.proofs.Uses as held

-- what each call asks follows from soundness
pub sound_is_intact : (bases : Bases) (m : Blocks) (out : List BlockRef) → SoundBeside bases m out → IsIntact bases m out
sound_is_intact = sound_intact value_refs value_of value_own

-- ---- what is out of the databases changes: a value is made, changed or released

module _ (bases : Bases) (m after : Blocks) (out later xs ys : List BlockRef) (sound : SoundBeside bases m out) (p : Changes m after xs ys) (part : (r : BlockRef) → times r xs ≤ times r out) where
  pub changed_sound_in_uses : ((r : BlockRef) → times r later + times r xs ≡ times r out + times r ys) → SoundBeside bases after later
  changed_sound_in_uses = held.changed_sound_in_uses value_refs value_of value_own bases m after out later xs ys sound p part

  pub changed_means : (db : ℕ) → means db bases after ≡ means db bases m
  changed_means = held.changed_means value_refs value_of value_own bases m after out later xs ys sound p part

-- ---- a value is made and put in place of what stands at a key

module _ (bases : Bases) (m after : Blocks) (value : Value) (sound : Sound bases m) (p : Changes m after [] (value_refs after value)) where
  pub made_sound : SoundBeside bases after (value_refs after value)
  made_sound = held.made_sound value_refs value_of value_own bases m after value sound p

  -- what `put` asks
  pub made_intact : IsSound bases.limits bases.seed after value → IsIntactWith bases after value
  made_intact = held.made_intact value_refs value_of value_own bases m after value sound p

  pub made_means : (db : ℕ) → means db bases after ≡ means db bases m
  made_means = held.made_means value_refs value_of value_own bases m after value sound p

  module _ (new : Bases) (later : Blocks) where
    -- from the clause `within` of `put`
    pub put_within_in_uses : (scope : Scope) → Within scope bases new after later → Within scope bases new m later
    put_within_in_uses = held.put_within_in_uses value_refs value_of value_own bases m after value sound p new later

    -- from the clause `sound` of `put`
    pub put_sound_in_uses : ((all out : List BlockRef) → SoundBeside bases after all → AreParts all (value_refs after value) out → SoundBeside new later out) → Sound new later
    put_sound_in_uses = held.put_sound_in_uses value_refs value_of value_own bases m after value sound p new later

    -- from the clause `means` of `put`, or its clause `kept`: the world that the step speaks of
    pub put_means_in_uses : (db moment : ℕ) (key : List ℕ) (entry : Entry) → means db new later ≡ put (means db bases after) key entry
        → model.live (means db new later) moment ≡ stand (model.live (means db bases m) moment) moment key entry
    put_means_in_uses = held.put_means_in_uses value_refs value_of value_own bases m after value sound p new later

    pub put_kept : (db moment : ℕ) → means db new later ≡ means db bases after → model.live (means db new later) moment ≡ model.live (means db bases m) moment
    put_kept = held.put_kept value_refs value_of value_own bases m after value sound p new later

-- ---- a value is lifted, changed and lowered again

module _ (old mid : Bases) (m after : Blocks) (db moment : ℕ) (key : List ℕ) (lifted changed : Lifted) (out : List BlockRef) (lifts : Lifts old mid m db key moment lifted)
    (sound : SoundBeside mid m (value_refs m lifted.value ++ out)) (p : Changes m after (value_refs m lifted.value) (value_refs after changed.value)) (same_db : changed.db ≡ lifted.db)
    (same_item : changed.item ≡ lifted.item) where
  -- what `lower` asks
  pub lower_intact : IsSound mid.limits mid.seed after changed.value → IsIntactWith mid after changed.value
  lower_intact = held.lower_intact value_refs value_of value_own old mid m after db moment key lifted changed out vacant lifts sound p same_db same_item

  pub lower_vacant : IsVacant mid changed.db changed.item
  lower_vacant = held.lower_vacant value_refs value_of value_own old mid m after db moment key lifted changed out vacant lifts sound p same_db same_item

  module _ (new : Bases) where
    -- from the clause `sound` of `lower`
    pub lower_sound : ((all rest : List BlockRef) → SoundBeside mid after all → AreParts all (value_refs after changed.value) rest → SoundBeside new after rest) → SoundBeside new after out
    lower_sound = held.lower_sound value_refs value_of value_own old mid m after db moment key lifted changed out vacant lifts sound p same_db same_item new

    -- from the clause `has` of `lower`
    pub lower_has : ((k : List ℕ) (deadline : Option ℕ) → IsPlace mid after changed.db changed.item k deadline → HasOnly new after changed.db k changed.value) → HasOnly new after db key changed.value
    lower_has = held.lower_has value_refs value_of value_own old mid m after db moment key lifted changed out vacant lifts sound p same_db same_item new

    -- from the clauses `within` of `lift` and `lower`
    pub lower_within : Within (one_key db key) old mid m m →
        ((k : List ℕ) (deadline : Option ℕ) → IsPlace mid after changed.db changed.item k deadline → Within (one_key changed.db k) mid new after after)
        → Within (one_key db key) old new m after
    lower_within = held.lower_within value_refs value_of value_own old mid m after db moment key lifted changed out vacant lifts sound p same_db same_item new

    -- from the clause `means` of `lower`: the value stands at the key, with the deadline that was there
    pub lower_means :
        ((k : List ℕ) (deadline : Option ℕ) → IsPlace mid after changed.db changed.item k deadline
        → means changed.db new after ≡ put (means changed.db mid after) k (record { value = value_of after changed.value; deadline = deadline }))
        → model.live (means db new after) moment ≡ put (model.live (means db old m) moment) key (record { value = value_of after changed.value; deadline = lifts.deadline })
    lower_means = held.lower_means value_refs value_of value_own old mid m after db moment key lifted changed out vacant lifts sound p same_db same_item new

-- ---- strings: from what a call on the text of a lifted value asks and says

module _ (m mid : Blocks) (value : Value) (text : texts.Text) (same : mid ≡ m) (is : value ≡ Text text) where
  pub text_owned : Owned (value_refs m value) m → Owned (text_refs text) mid
  text_owned own = subst (Owned (text_refs text)) (sym same) (subst (λ v. Owned (value_refs m v) m) is own)

  pub text_changes : (after : Blocks) (changed : texts.Text) → Changes mid after (text_refs text) (text_refs changed) → Changes m after (value_refs m value) (value_refs after (Text changed))
  text_changes after changed p = subst (λ v. Changes m after (value_refs m v) (text_refs changed)) (sym is) (subst (λ b. Changes b after (text_refs text) (text_refs changed)) same p)

  pub text_bytes_in_uses : value_of m value ≡ model.Str (text_bytes mid text)
  text_bytes_in_uses = ap (value_of m) is ∙ ap (λ b. model.Str (text_bytes b text)) (sym same)

-- ---- what stands at a key is sound

pub has_sound : (bases : Bases) (m : Blocks) (db : ℕ) (key : List ℕ) (value : Value) → IsArranged bases m → HasValue bases m db key value → IsSound bases.limits bases.seed m value
has_sound = held.has_sound value_refs value_of value_own

pub lifted_sound : (old mid : Bases) (m : Blocks) (db moment : ℕ) (key : List ℕ) (lifted : Lifted) → IsArranged old m → SameSettings old mid → Lifts old mid m db key moment lifted
    → IsSound mid.limits mid.seed m lifted.value
lifted_sound old mid m db moment key lifted = held.lifted_sound value_refs value_of value_own old mid m db moment key lifted vacant

-- ---- encodings

-- a list of a sound form has one of two names
form_known : (form : Form) (containers : List Container) (list : List (List ℕ)) → IsFormed form containers → Contains (encodings (model.ListOf list)) (form_text form)
form_known Intset containers list is = absurd is
form_known Listpack containers list is = (0, lit< tt, refl)
form_known Hashtable containers list is = absurd is
form_known Skiplist containers list is = absurd is
form_known Quicklist containers list is = (1, lit< tt, refl)
form_known Stream containers list is = absurd is

name_known : (bytes : List ℕ) (own : Name) → Contains (encodings (model.Str bytes)) (name_text own)
name_known bytes Int = (0, lit< tt, refl)
name_known bytes Embstr = (1, lit< tt, refl)
name_known bytes Raw = (2, lit< tt, refl)

set_known : (members : Strings) (body : set_body.Body) → Contains (encodings (model.SetOf members)) (form_text (set.form_of_body body))
set_known members set_bodies.Empty = (0, lit< tt, refl)
set_known members (set_bodies.Numbers packed) = (0, lit< tt, refl)
set_known members (set_bodies.Pack packed) = (1, lit< tt, refl)
set_known members (set_bodies.Table t) = (2, lit< tt, refl)

hash_known : (fields : FieldMap) (body : hash_body.Body) → Contains (encodings (model.HashOf fields)) (form_text (hash.form_of_body body))
hash_known fields hash_bodies.Empty = (0, lit< tt, refl)
hash_known fields (hash_bodies.Pack packed) = (0, lit< tt, refl)
hash_known fields (hash_bodies.Table t) = (1, lit< tt, refl)

zset_known : (scores : ScoreMap) (body : zset_body.Body) → Contains (encodings (model.SortedOf scores)) (form_text (zset.form_of_body body))
zset_known scores zset_bodies.Empty = (0, lit< tt, refl)
zset_known scores (zset_bodies.Pack packed) = (0, lit< tt, refl)
zset_known scores (zset_bodies.Table t) = (1, lit< tt, refl)

stream_known : (m : Blocks) (log : Log) → Contains (encodings (model.StreamOf (stream_of m log))) (form_text Stream)
stream_known m log = (0, lit< tt, refl)

-- the name of a value's encoding is one of those of its type
pub encoding_known : (limits : Limits) (seed : ℕ) (m : Blocks) (value : Value) (name : List ℕ) → IsSound limits seed m value → IsEncodedAs m value name → Contains (encodings (value_of m value)) name
encoding_known limits seed m (Text text) name sound is = subst (Contains (encodings (model.Str (text_bytes m text)))) (sym is.2) (name_known (text_bytes m text) is.0)
encoding_known limits seed m (kinds.List b) name sound is = subst (Contains (encodings (model.ListOf (elements m b.value)))) (sym is)
    (form_known b.value.form (map container_of b.value.nodes) (elements m b.value) sound.formed)
encoding_known limits seed m (Set b) name sound is = subst (Contains (encodings (model.SetOf (set.members m b.value)))) (sym is) (set_known (set.members m b.value) b.value.body)
encoding_known limits seed m (Hash b) name sound is = subst (Contains (encodings (model.HashOf (hash.fields m b.value)))) (sym is) (hash_known (hash.fields m b.value) b.value.body)
encoding_known limits seed m (Zset b) name sound is = subst (Contains (encodings (model.SortedOf (zset.scores m b.value)))) (sym is) (zset_known (zset.scores m b.value) b.value.body)
encoding_known limits seed m (kinds.Stream b) name sound is = subst (Contains (encodings (model.StreamOf (stream_of m b.value)))) (sym is) (stream_known m b.value)
