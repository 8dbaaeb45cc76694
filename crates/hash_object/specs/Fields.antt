-- What contracts see of a hash over a store.
use Rattle.std.specs.Prelude.{◌≡◌, ℕ, ◌*◌, ◌≤◌, ◌++◌, List, [], ◌∷◌, length, Option, Some, None, MatchOption}
use Rattle.std.specs.FinMap.{empty}
use Rattle.blocks.specs.declared.BlockRef.{BlockRef}
use Rattle.blocks.specs.Blocks.{Blocks, bytes_at, Changes, Owned}
use Rattle.object_codec.specs.Limits.{AreInRange}
use Rattle.object_codec.specs.declared.limits.Limits.{Limits}
use Rattle.object_codec.specs.declared.form.Form.{Form}
use Rattle.object_codec.specs.declared.form.Form.TheVariants.{Listpack, Hashtable}
use Rattle.pack_pairs.specs.Pairs.{Pair, IsPairPack, IsOnce, IsFirst, pairs, paired, second_of, seconded, map_of_pairs, longest}
use Rattle.rehash_dict.specs.Keyed.{Keyed, hash_of, key_tables}
use Rattle.rehash_dict.specs.Tables.{Tables}
use Rattle.rehash_dict.specs.Grown.{Grown}
use Rattle.hash_object.specs.declared.fields.Body.{Body}
use Rattle.hash_object.specs.declared.fields.Body.TheVariants.{Empty, Pack, Table}
use Rattle.hash_object.specs.declared.fields.Fields.{Fields}
use Rattle.hash_object.specs.Maps.{FieldMap}
use Rattle.hash_object.specs.Hashed.{FieldTable, entries_in, fields_in, blocks_of}

-- the fields and values in the hash's own order: that of its packed form, or that of the item numbers of its dictionary
abbrev pub listed_of : Blocks → Body → List Pair
listed_of blocks Empty = []
listed_of blocks (Pack packed) = pairs (bytes_at blocks packed.at)
listed_of blocks (Table t) = entries_in blocks t

abbrev pub listed : Blocks → Fields → List Pair
listed blocks f = listed_of blocks f.body

abbrev pub fields_of : Blocks → Body → FieldMap
fields_of blocks Empty = empty
fields_of blocks (Pack packed) = map_of_pairs (pairs (bytes_at blocks packed.at))
fields_of blocks (Table t) = fields_in blocks t

-- the fields of the hash with their values
abbrev pub fields : Blocks → Fields → FieldMap
fields blocks f = fields_of blocks f.body

abbrev pub refs_of_body : Body → List BlockRef
refs_of_body Empty = []
refs_of_body (Pack packed) = packed.at ∷ []
refs_of_body (Table t) = blocks_of t

-- the references that it owns
abbrev pub refs : Fields → List BlockRef
refs f = refs_of_body f.body

abbrev pub form_of_body : Body → Form
form_of_body Empty = Listpack
form_of_body (Pack packed) = Listpack
form_of_body (Table t) = Hashtable

-- its form
abbrev pub form_of : Fields → Form
form_of f = form_of_body f.body

-- the bytes are a listpack as the writer makes it of so many fields and values, which are not too many nor too long
pub record IsFieldPack (limits : Limits) (len : ℕ) (bytes : List ℕ) : Type 0 where
  pub pack : IsPairPack bytes
  pub counted : len ≡ length (pairs bytes)
  pub once : IsOnce (pairs bytes)
  pub few : len ≤ limits.hash_entries
  pub short : longest (pairs bytes) ≤ limits.hash_value

-- the dictionary of field blocks has the hash's seed
pub record IsFieldTable (blocks : Blocks) (seed : ℕ) (t : FieldTable) : Type 0 where
  pub keyed : Keyed blocks t
  pub seed_is : t.seed ≡ seed

abbrev pub IsBody : Blocks → Limits → ℕ → Body → Type 0
IsBody blocks limits seed Empty = Unit {0}
IsBody blocks limits seed (Pack packed) = IsFieldPack limits packed.len (bytes_at blocks packed.at)
IsBody blocks limits seed (Table t) = IsFieldTable blocks seed t

-- The hash owns its blocks, which hold its fields and values in its form.
pub record IsFields (blocks : Blocks) (f : Fields) : Type 0 where
  pub limits : AreInRange f.limits
  pub owned : Owned (refs f) blocks
  pub body : IsBody blocks f.limits f.seed f.body

-- a dictionary without a table
abbrev pub no_tables : Tables (List ℕ)
no_tables = record { older = []; newer = []; position = 0 }

abbrev pub tables_of : Blocks → Body → Tables (List ℕ)
tables_of blocks Empty = no_tables
tables_of blocks (Pack packed) = no_tables
tables_of blocks (Table t) = key_tables blocks t

-- the tables of its dictionary, whose elements are named by the bytes of their fields; a packed hash has no table
abbrev pub tables : Blocks → Fields → Tables (List ℕ)
tables blocks f = tables_of blocks f.body

-- its settings stay
pub record KeepsSettings (old new : Fields) : Type 0 where
  pub limits : new.limits ≡ old.limits
  pub seed : new.seed ≡ old.seed

-- The hash has these fields and values now, over the blocks that it owns, and its tables come from the old ones by
-- edits.
pub record IsChanged (before after : Blocks) (old new : Fields) (map : FieldMap) : Type 0 where
  pub sound : IsFields after new
  pub fields_are : fields after new ≡ map
  pub changes : Changes before after (refs old) (refs new)
  pub grown : Grown (hash_of old.seed) (tables before old) (tables after new)
  pub settings : KeepsSettings old new

-- A body of these fields and values was placed that can take the place of the hash's own.
pub record IsPlacedBody (before after : Blocks) (f : Fields) (body : Body) (map : FieldMap) : Type 0 where
  pub sound : IsBody after f.limits f.seed body
  pub fields_are : fields_of after body ≡ map
  pub changes : Changes before after [] (refs_of_body body)
  pub grown : Grown (hash_of f.seed) no_tables (tables_of after body)

-- the pair of the field stands at the index, or there is none
abbrev pub IsIndex : List Pair → List ℕ → Option ℕ → Type 0
IsIndex list field index = MatchOption index (second_of field list ≡ None) (λ i. IsFirst field list i)

-- the pairs with this value in the pair at the index, or with a pair more
abbrev pub put_in : List Pair → Option ℕ → List ℕ → List ℕ → List Pair
put_in list None field value = list ++ (field, value) ∷ []
put_in list (Some i) field value = seconded list i value

-- These texts may be, two by two, the fields and values of a packed hash: they come in twos, the pairs are not too many
-- nor too long, and no field stands twice.
pub record ArePackable (limits : Limits) (texts : List (List ℕ)) : Type 0 where
  pub even : length texts ≡ 2 * length (paired texts)
  pub few : length (paired texts) ≤ limits.hash_entries
  pub short : longest (paired texts) ≤ limits.hash_value
  pub once : IsOnce (paired texts)

-- A packed hash without a field, of which these texts may be the fields and values.
pub record CanTake (blocks : Blocks) (f : Fields) (texts : List (List ℕ)) : Type 0 where
  pub packed : form_of f ≡ Listpack
  pub fresh : fields blocks f ≡ empty
  pub packable : ArePackable f.limits texts

-- A packed body that has these texts as its fields and values, in their order, was placed.
pub record IsPlacedWhole (before after : Blocks) (f : Fields) (texts : List (List ℕ)) (body : Body) : Type 0 where
  pub packable : ArePackable f.limits texts
  pub form : form_of_body body ≡ Listpack
  pub listed_are : listed_of after body ≡ paired texts
  pub placed : IsPlacedBody before after f body (map_of_pairs (paired texts))
