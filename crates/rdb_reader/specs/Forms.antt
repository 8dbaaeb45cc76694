-- How values are encoded that were loaded (Redis command reference, "OBJECT ENCODING").
use Rattle.std.specs.Prelude.{◌≡◌, ℕ, Some, false}
use Rattle.blocks.specs.Blocks.{Blocks}
use Rattle.object_codec.specs.declared.limits.Limits.{Limits}
use Rattle.object_codec.specs.declared.form.Form.{Form}
use Rattle.object_codec.specs.declared.form.Form.TheVariants as codec
use Rattle.object_codec.specs.Forms.{IsLeast, FitsList}
use Rattle.quicklist.specs.Nodes.{pack_len}
use Rattle.set_object.specs.Strings.{FitsMembers}
use Rattle.hash_object.specs.Maps.{FitsFields}
use Rattle.zset_object.specs.Orders.{FitsScored}
use Rattle.plain_world.specs.Worlds.{Str, ListOf, SetOf, HashOf, SortedOf, StreamOf}
use Rattle.plain_world.specs.Worlds as model
use Rattle.rdb_grammar.specs.declared.values.Collection.{Collection}
use Rattle.rdb_grammar.specs.declared.values.Collection.TheVariants as of
use Rattle.rdb_grammar.specs.declared.values.Packed.{Packed}
use Rattle.rdb_grammar.specs.declared.values.Packed.TheVariants as packs
use Rattle.held.specs.Table.{Element, item}
use Rattle.keyspace.specs.declared.value.Value.{Value}
use Rattle.keyspace.specs.declared.value.Value.TheVariants as kinds
use Rattle.keyspace.specs.Databases.{Bases, table_at}
use Rattle.keyspace.specs.Values.{Encoding, OfText, OfForm, value_of, encoding_of}

-- it has the least form that fits
abbrev pub HasLeast : (Form → Type 0) → Encoding → Type 0
HasLeast fits (OfText raw) = ⊥
HasLeast fits (OfForm form) = IsLeast fits form

-- Written anew by these limits, a value is encoded so: a string as one that is written whole, and a collection in the least
-- form that fits.
abbrev pub IsNewAs : Limits → model.Value → Encoding → Type 0
IsNewAs limits (Str text) encoding = encoding ≡ OfText false
IsNewAs limits (ListOf elements) encoding = HasLeast (FitsList (pack_len elements)) encoding
IsNewAs limits (SetOf members) encoding = HasLeast (FitsMembers limits members) encoding
IsNewAs limits (HashOf fields) encoding = HasLeast (FitsFields limits fields) encoding
IsNewAs limits (SortedOf scores) encoding = HasLeast (FitsScored limits scores) encoding
IsNewAs limits (StreamOf stream) encoding = encoding ≡ OfForm codec.Stream

abbrev pub IsNew : Limits → Blocks → Value → Type 0
IsNew limits m value = IsNewAs limits (value_of m value) (encoding_of value)

-- every value is encoded as one that was written anew
abbrev pub AreNew : Bases → Blocks → Type 0
AreNew bases m =
    (db at : ℕ) (element : Element Value) → item (table_at bases db) at ≡ Some element → IsNew bases.limits m element.value

-- it is this kind of collection
abbrev pub IsOf : Collection → Value → Type 0
IsOf of.List (kinds.List list) = Unit {0}
IsOf of.Set (kinds.Set members) = Unit {0}
IsOf of.Hash (kinds.Hash fields) = Unit {0}
IsOf of.SortedSet (kinds.Zset scored) = Unit {0}
IsOf of.Stream (kinds.Stream log) = Unit {0}
IsOf type other = ⊥

-- members of a set are packed so
abbrev pub HasMembers : Packed → Type 0
HasMembers packs.Numbers = Unit {0}
HasMembers packs.Texts = Unit {0}
HasMembers packs.Pairs = ⊥
HasMembers packs.Scores = ⊥

-- what is packed so may be put into it
abbrev pub Suits : Value → Packed → Type 0
Suits (kinds.Set members) packed = HasMembers packed
Suits (kinds.Hash fields) packed = packed ≡ packs.Pairs
Suits (kinds.Zset scored) packed = packed ≡ packs.Scores
Suits other packed = ⊥
