-- What a value over the blocks of a store means, the blocks that it owns, and how it is kept: a line for each type of
-- value.
use Rattle.std.specs.Prelude.{◌≡◌, ℕ, ◌<◌, Bool, List, [], length, map, pos, true, false}
use Rattle.std.specs.List.{range_with_len}
use Rattle.std.proofs.Common.{refl, ap}
use Rattle.std.proofs.lemmas.List.{length-map}
use Rattle.std.proofs.lemmas.List.FromFn.{length-range_with_len}
use Rattle.blocks.specs.declared.BlockRef.{BlockRef}
use Rattle.blocks.specs.Blocks.{Blocks, times}
use Rattle.object_codec.specs.declared.form.Form.{Form}
use Rattle.object_codec.specs.declared.form.Form.TheVariants as forms
use Rattle.object_codec.specs.declared.limits.Limits.{Limits}
use Rattle.object_codec.specs.declared.name.Name.{Name}
use Rattle.object_codec.specs.Forms.{form_text}
use Rattle.object_codec.specs.Names.{IsNameOf, name_text}
use Rattle.rehash_dict.specs.Tables.{Tables}
use Rattle.stored.specs.Owning.{ReadsOwn, RestsOn, KeepsTables, IsBlank, no_tables}
use Rattle.stored.specs.Passing.{Marks}
use Rattle.string_object.specs.declared.text.Text.TheVariants.{Number}
use Rattle.string_object.specs.Text.{text_bytes, text_refs, is_raw}
use Rattle.string_object.proofs.Texts.{text_own}
use Rattle.quicklist.specs.Chain as list
use Rattle.quicklist.proofs.Depends.{quick_laws_hold}
use Rattle.set_object.specs.Members as set
use Rattle.set_object.specs.Relocation as set_marks
use Rattle.set_object.proofs.Depends.{members_laws_hold}
use Rattle.hash_object.specs.Fields as hash
use Rattle.hash_object.specs.Relocation as hash_marks
use Rattle.hash_object.proofs.Depends.{fields_laws_hold}
use Rattle.zset_object.specs.Scored as zset
use Rattle.zset_object.specs.Relocation as zset_marks
use Rattle.zset_object.proofs.Depends.{scored_laws_hold}
use Rattle.stream_object.specs.Streams as stream
use Rattle.stream_object.proofs.Clears.{stream_laws_hold}
use Rattle.plain_world.specs.Worlds.{Str, ListOf, SetOf, HashOf, SortedOf, StreamOf}
use Rattle.plain_world.specs.Worlds as model
use Rattle.keyspace.specs.declared.value.Value.{Value}
use Rattle.keyspace.specs.declared.value.Value.TheVariants.{Text, Set, Hash, Zset}
use Rattle.keyspace.specs.declared.value.Value.TheVariants as kinds

-- the value that it means
abbrev pub value_of : Blocks → Value → model.Value
value_of blocks (Text text) = Str (text_bytes blocks text)
value_of blocks (kinds.List b) = ListOf (list.elements blocks b.value)
value_of blocks (Set b) = SetOf (set.members blocks b.value)
value_of blocks (Hash b) = HashOf (hash.fields blocks b.value)
value_of blocks (Zset b) = SortedOf (zset.scores blocks b.value)
value_of blocks (kinds.Stream b) = StreamOf (stream.stream_of blocks b.value)

-- the references that it owns
abbrev pub value_refs : Blocks → Value → List BlockRef
value_refs blocks (Text text) = text_refs text
value_refs blocks (kinds.List b) = list.refs b.value
value_refs blocks (Set b) = set.refs b.value
value_refs blocks (Hash b) = hash.refs b.value
value_refs blocks (Zset b) = zset.refs b.value
value_refs blocks (kinds.Stream b) = stream.refs blocks b.value

-- It is sound over the blocks of a store, and was made with these limits and this seed where it keeps them. A sorted set's
-- list names just the members of its table.
abbrev pub IsSound : Limits → ℕ → Blocks → Value → Type 0
IsSound limits seed blocks (Text text) = Unit {0}
IsSound limits seed blocks (kinds.List b) = list.IsQuick blocks b.value
IsSound limits seed blocks (Set b) =
    set.IsMembers blocks b.value × (b.value.limits ≡ limits) × (b.value.seed ≡ seed)
IsSound limits seed blocks (Hash b) =
    hash.IsFields blocks b.value × (b.value.limits ≡ limits) × (b.value.seed ≡ seed)
IsSound limits seed blocks (Zset b) =
    zset.IsScored blocks b.value × (b.value.limits ≡ limits) × (b.value.seed ≡ seed)
IsSound limits seed blocks (kinds.Stream b) = stream.IsStream blocks b.value

-- The marks of its blocks and of its vacant item numbers: 0 for the block of a string or of a packed form, for that of a
-- list's node its index, for that of a member its item number, for those of a field and its value twice its item number,
-- and one more, and for that of a stream's node its key as a number, and of a node of its tree the least key below it.
abbrev pub value_marks : Blocks → Value → Marks
value_marks blocks (Text text) = record { named = map (λ at. 0) (text_refs text); vacant = [] }
value_marks blocks (kinds.List b) =
    record { named = range_with_len 0 (length (list.refs b.value)); vacant = [] }
value_marks blocks (Set b) = record { named = set_marks.marks b.value; vacant = set_marks.vacant_marks b.value }
value_marks blocks (Hash b) = record { named = hash_marks.marks b.value; vacant = hash_marks.vacant_marks b.value }
value_marks blocks (Zset b) = record { named = zset_marks.marks b.value; vacant = zset_marks.vacant_marks b.value }
value_marks blocks (kinds.Stream b) = record { named = stream.marks blocks b.value; vacant = [] }

-- the tables of its dictionary, with elements named by their bytes
abbrev pub value_tables : Blocks → Value → Tables (List ℕ)
value_tables blocks (Text text) = no_tables
value_tables blocks (kinds.List b) = no_tables
value_tables blocks (Set b) = set.tables blocks b.value
value_tables blocks (Hash b) = hash.tables blocks b.value
value_tables blocks (Zset b) = zset.tables blocks b.value
value_tables blocks (kinds.Stream b) = no_tables

-- how a value is encoded beside what it means: for a string, whether it was made raw by a change of a part, and for
-- every other value its form
pub data Encoding : Type 0 where
  OfText : Bool → Encoding
  OfForm : Form → Encoding

abbrev pub encoding_of : Value → Encoding
encoding_of (Text text) = OfText (is_raw text)
encoding_of (kinds.List b) = OfForm b.value.form
encoding_of (Set b) = OfForm (set.form_of b.value)
encoding_of (Hash b) = OfForm (hash.form_of b.value)
encoding_of (Zset b) = OfForm (zset.form_of b.value)
encoding_of (kinds.Stream b) = OfForm forms.Stream

-- this is the name of its encoding (Redis command reference, "OBJECT ENCODING")
abbrev pub IsEncodedAs : Blocks → Value → List ℕ → Type 0
IsEncodedAs blocks (Text text) name =
    (own : Name) × IsNameOf (text_bytes blocks text) (is_raw text) own × (name ≡ name_text own)
IsEncodedAs blocks (kinds.List b) name = name ≡ form_text b.value.form
IsEncodedAs blocks (Set b) name = name ≡ form_text (set.form_of b.value)
IsEncodedAs blocks (Hash b) name = name ≡ form_text (hash.form_of b.value)
IsEncodedAs blocks (Zset b) name = name ≡ form_text (zset.form_of b.value)
IsEncodedAs blocks (kinds.Stream b) name = name ≡ form_text forms.Stream

-- it is encoded as a string written whole: no part of it was changed
abbrev pub IsWrittenWhole : Value → Type 0
IsWrittenWhole value = encoding_of value ≡ OfText false

-- it is a string that was made raw by a change of a part
abbrev pub IsRaw : Value → Type 0
IsRaw value = encoding_of value ≡ OfText true

-- both are encoded alike, where they mean the same
abbrev pub IsLike : Value → Value → Type 0
IsLike value other = encoding_of other ≡ encoding_of value

-- it is a string
abbrev pub IsText : Value → Type 0
IsText (Text text) = Unit {0}
IsText other = ⊥

-- what stands in the place of a value that was taken out: the string of the number 0
abbrev pub vacant : Value
vacant = Text (Number (pos 0))

-- ---- what is seen of a value rests on its own blocks

pub vacant_blank : IsBlank value_refs IsSound vacant
vacant_blank = record { none = λ m. refl; sound = λ limits seed m. tt }

pub value_marked : (blocks : Blocks) (value : Value) → length (value_marks blocks value).named ≡ length (value_refs blocks value)
value_marked blocks (Text text) = length-map (text_refs text) (λ at. 0)
value_marked blocks (kinds.List b) = length-range_with_len 0 (length (list.refs b.value))
value_marked blocks (Set b) = members_laws_hold.marked b.value
value_marked blocks (Hash b) = fields_laws_hold.marked b.value
value_marked blocks (Zset b) = scored_laws_hold.marked b.value
value_marked blocks (kinds.Stream b) = stream_laws_hold.marked blocks b.value

value_reads : (m after : Blocks) (value : Value) → ((r : BlockRef) → 0 < times r (value_refs m value) → after r ≡ m r)
    → value_of after value ≡ value_of m value
value_reads m after (Text text) same = ap Str (text_own m after text same)
value_reads m after (kinds.List b) same = ap ListOf (quick_laws_hold.own m after b.value same)
value_reads m after (Set b) same = ap SetOf (members_laws_hold.own m after b.value same)
value_reads m after (Hash b) same = ap HashOf (fields_laws_hold.own m after b.value same)
value_reads m after (Zset b) same = ap SortedOf (scored_laws_hold.own m after b.value same)
value_reads m after (kinds.Stream b) same = ap StreamOf (stream_laws_hold.own m after b.value same).value_is

value_stays : (limits : Limits) (seed : ℕ) (m after : Blocks) (value : Value)
    → ((r : BlockRef) → 0 < times r (value_refs m value) → after r ≡ m r) → IsSound limits seed m value
    → IsSound limits seed after value
value_stays limits seed m after (Text text) same sound = tt
value_stays limits seed m after (kinds.List b) same sound = quick_laws_hold.sound m after b.value same sound
value_stays limits seed m after (Set b) same sound = (
  (members_laws_hold.sound m after b.value same sound.0).0,
  sound.1,
  sound.2,
)
value_stays limits seed m after (Hash b) same sound = (
  (fields_laws_hold.sound m after b.value same sound.0).0,
  sound.1,
  sound.2,
)
value_stays limits seed m after (Zset b) same sound = (
  (scored_laws_hold.sound m after b.value same sound.0).0,
  sound.1,
  sound.2,
)
value_stays limits seed m after (kinds.Stream b) same sound = (stream_laws_hold.own m after b.value same).sound sound

value_refs_own : (m after : Blocks) (value : Value) → ((r : BlockRef) → 0 < times r (value_refs m value) → after r ≡ m r)
    → value_refs after value ≡ value_refs m value
value_refs_own m after (Text text) same = refl
value_refs_own m after (kinds.List b) same = refl
value_refs_own m after (Set b) same = refl
value_refs_own m after (Hash b) same = refl
value_refs_own m after (Zset b) same = refl
value_refs_own m after (kinds.Stream b) same = (stream_laws_hold.own m after b.value same).refs_are

pub value_marks_own : RestsOn value_refs value_marks
value_marks_own m after (Text text) same = refl
value_marks_own m after (kinds.List b) same = refl
value_marks_own m after (Set b) same = refl
value_marks_own m after (Hash b) same = refl
value_marks_own m after (Zset b) same = refl
value_marks_own m after (kinds.Stream b) same =
    ap (λ named. record { named = named; vacant = [] }) (stream_laws_hold.own m after b.value same).marks_are

pub value_tables_own : KeepsTables value_refs IsSound value_tables
value_tables_own limits seed m after (Text text) same sound = refl
value_tables_own limits seed m after (kinds.List b) same sound = refl
value_tables_own limits seed m after (Set b) same sound = (members_laws_hold.sound m after b.value same sound.0).1
value_tables_own limits seed m after (Hash b) same sound = (fields_laws_hold.sound m after b.value same sound.0).1
value_tables_own limits seed m after (Zset b) same sound = (scored_laws_hold.sound m after b.value same sound.0).2
value_tables_own limits seed m after (kinds.Stream b) same sound = refl

pub value_own : ReadsOwn value_refs value_of IsSound
value_own = record { means = value_reads; stays = value_stays; refs = value_refs_own }
