-- What contracts see of a set over a store.
use Rattle.std.specs.Prelude.{◌≡◌, ℕ, zero, suc, ◌≤◌, ◌<◌, ◌^◌, List, [], ◌∷◌, length, map, Option, Some, None}
use Rattle.std.specs.List.{All, flat_map}
use Rattle.std.specs.FinMap.{empty}
use lib.Signed.{mag}
use Rattle.blocks.specs.declared.BlockRef.{BlockRef}
use Rattle.blocks.specs.Blocks.{Blocks, bytes_at, Changes, Owned}
use Rattle.int_text.specs.Decimal.{canonical}
use Rattle.intset.specs.Intset.{IsIntset, numbers_of}
use Rattle.listpack.specs.Pack.{IsPack, texts, spellings_of}
use Rattle.listpack.specs.Writing.{spelling}
use Rattle.object_codec.specs.Limits.{AreInRange}
use Rattle.object_codec.specs.declared.limits.Limits.{Limits}
use Rattle.object_codec.specs.declared.form.Form.{Form}
use Rattle.object_codec.specs.declared.form.Form.TheVariants.{Intset, Listpack, Hashtable}
use Rattle.rehash_dict.specs.Table.{Table as DictTable, Element}
use Rattle.rehash_dict.specs.Keyed.{Keyed, hash_of, key_tables}
use Rattle.rehash_dict.specs.MapOf.{content, key_refs}
use Rattle.rehash_dict.specs.Tables.{Tables}
use Rattle.rehash_dict.specs.Grown.{Grown}
use Rattle.set_object.specs.declared.members.Packed.{Packed}
use Rattle.set_object.specs.declared.members.Body.{Body}
use Rattle.set_object.specs.declared.members.Body.TheVariants.{Empty, Numbers, Pack, Table}
use Rattle.set_object.specs.declared.members.Members.{Members}
use Rattle.set_object.specs.Strings.{Strings, set_of, IsOnce}

-- the texts of the numbers of an intset
abbrev pub number_texts : List ℕ → List (List ℕ)
number_texts bytes = map canonical (numbers_of bytes)

-- the bytes of an element's key
abbrev pub key_in : Blocks → Option (Element (Unit {0})) → List (List ℕ)
key_in blocks None = []
key_in blocks (Some e) = bytes_at blocks e.key ∷ []

-- the members in the set's own order: that of its packed form, or that of the item numbers of its dictionary
abbrev pub listed_of : Blocks → Body → List (List ℕ)
listed_of blocks Empty = []
listed_of blocks (Numbers packed) = number_texts (bytes_at blocks packed.at)
listed_of blocks (Pack packed) = texts (bytes_at blocks packed.at)
listed_of blocks (Table t) = flat_map (key_in blocks) t.items

abbrev pub listed : Blocks → Members → List (List ℕ)
listed blocks m = listed_of blocks m.body

abbrev pub members_of : Blocks → Body → Strings
members_of blocks Empty = empty
members_of blocks (Numbers packed) = set_of (number_texts (bytes_at blocks packed.at))
members_of blocks (Pack packed) = set_of (texts (bytes_at blocks packed.at))
members_of blocks (Table t) = content blocks t

-- the members of the set
abbrev pub members : Blocks → Members → Strings
members blocks m = members_of blocks m.body

abbrev pub refs_of : Body → List BlockRef
refs_of Empty = []
refs_of (Numbers packed) = packed.at ∷ []
refs_of (Pack packed) = packed.at ∷ []
refs_of (Table t) = key_refs t

-- the references that it owns
abbrev pub refs : Members → List BlockRef
refs m = refs_of m.body

abbrev pub form_of_body : Body → Form
form_of_body Empty = Intset
form_of_body (Numbers packed) = Intset
form_of_body (Pack packed) = Listpack
form_of_body (Table t) = Hashtable

-- its form
abbrev pub form_of : Members → Form
form_of m = form_of_body m.body

-- The form after a removal that left so many members: a packed set without a member is as a new one, and else the form
-- stays.
abbrev pub form_left : Form → ℕ → Form
form_left Hashtable n = Hashtable
form_left old zero = Intset
form_left old (suc n) = old

-- the bytes are the listpack that the writer makes of these elements
pub record IsPackOf (list : List (List ℕ)) (bytes : List ℕ) : Type 0 where
  pub pack : IsPack bytes
  pub texts_are : texts bytes ≡ list
  pub written : spellings_of bytes ≡ map spelling list

-- the bytes are an intset of the numbers of these texts
pub record IsNumberList (list : List (List ℕ)) (bytes : List ℕ) : Type 0 where
  pub intset : IsIntset bytes (numbers_of bytes)
  pub fit : All (λ n. mag n < 2 ^ 63) (numbers_of bytes)
  pub texts_are : number_texts bytes ≡ list

-- the bytes are an intset of so many numbers of 64 bits with a sign, which are not too many
pub record IsNumbers (limits : Limits) (len : ℕ) (bytes : List ℕ) : Type 0 where
  pub intset : IsIntset bytes (numbers_of bytes)
  pub counted : len ≡ length (numbers_of bytes)
  pub few : len ≤ limits.set_intset
  pub fit : All (λ n. mag n < 2 ^ 63) (numbers_of bytes)

-- the bytes are a listpack as the writer makes it of so many members, which are not too many nor too long
pub record IsMemberPack (limits : Limits) (len : ℕ) (bytes : List ℕ) : Type 0 where
  pub pack : IsPackOf (texts bytes) bytes
  pub counted : len ≡ length (texts bytes)
  pub once : IsOnce (texts bytes)
  pub few : len ≤ limits.set_entries
  pub short : All (λ (x : List ℕ). length x ≤ limits.set_value) (texts bytes)

-- the bytes are an intset of these members
pub record AreNumbersOf (set : Strings) (bytes : List ℕ) : Type 0 where
  pub intset : IsIntset bytes (numbers_of bytes)
  pub fit : All (λ n. mag n < 2 ^ 63) (numbers_of bytes)
  pub members_are : set_of (number_texts bytes) ≡ set

-- the bytes are a listpack as the writer makes it of these members, each once
pub record ArePackedOf (set : Strings) (bytes : List ℕ) : Type 0 where
  pub pack : IsPackOf (texts bytes) bytes
  pub once : IsOnce (texts bytes)
  pub members_are : set_of (texts bytes) ≡ set

-- the bytes are these members in the packed form that the body has
abbrev pub AreBytesOf : Body → Strings → List ℕ → Type 0
AreBytesOf Empty set bytes = ⊥
AreBytesOf (Numbers packed) set bytes = AreNumbersOf set bytes
AreBytesOf (Pack packed) set bytes = ArePackedOf set bytes
AreBytesOf (Table t) set bytes = ⊥

-- the body is the bytes of one block
abbrev pub IsPacked : Body → Type 0
IsPacked Empty = ⊥
IsPacked (Numbers packed) = Unit {0}
IsPacked (Pack packed) = Unit {0}
IsPacked (Table t) = ⊥

-- the packed form that a body has, in another block
abbrev pub repacked : Body → Packed → Body
repacked Empty new = Empty
repacked (Numbers packed) new = Numbers new
repacked (Pack packed) new = Pack new
repacked (Table t) new = Table t

-- the dictionary of member blocks has the set's seed
pub record IsMemberTable (blocks : Blocks) (seed : ℕ) (t : DictTable (Unit {0})) : Type 0 where
  pub keyed : Keyed blocks t
  pub seed_is : t.seed ≡ seed

abbrev pub IsBody : Blocks → Limits → ℕ → Body → Type 0
IsBody blocks limits seed Empty = Unit {0}
IsBody blocks limits seed (Numbers packed) = IsNumbers limits packed.len (bytes_at blocks packed.at)
IsBody blocks limits seed (Pack packed) = IsMemberPack limits packed.len (bytes_at blocks packed.at)
IsBody blocks limits seed (Table t) = IsMemberTable blocks seed t

-- The set owns its blocks, which hold its members in its form.
pub record IsMembers (blocks : Blocks) (m : Members) : Type 0 where
  pub limits : AreInRange m.limits
  pub owned : Owned (refs m) blocks
  pub body : IsBody blocks m.limits m.seed m.body

-- a dictionary without a table
abbrev pub no_tables : Tables (List ℕ)
no_tables = record { older = []; newer = []; position = 0 }

abbrev pub tables_of : Blocks → Body → Tables (List ℕ)
tables_of blocks Empty = no_tables
tables_of blocks (Numbers packed) = no_tables
tables_of blocks (Pack packed) = no_tables
tables_of blocks (Table t) = key_tables blocks t

-- the tables of its dictionary, whose members are named by their bytes; a packed set has no table
abbrev pub tables : Blocks → Members → Tables (List ℕ)
tables blocks m = tables_of blocks m.body

-- its settings stay
pub record KeepsSettings (old new : Members) : Type 0 where
  pub limits : new.limits ≡ old.limits
  pub seed : new.seed ≡ old.seed

-- The set has these members now, over the blocks that it owns, and its tables come from the old ones by edits.
pub record IsChanged (before after : Blocks) (old new : Members) (set : Strings) : Type 0 where
  pub sound : IsMembers after new
  pub members_are : members after new ≡ set
  pub changes : Changes before after (refs old) (refs new)
  pub grown : Grown (hash_of old.seed) (tables before old) (tables after new)
  pub settings : KeepsSettings old new

-- A body of these members was placed that can take the place of the set's own.
pub record IsPlacedBody (before after : Blocks) (m : Members) (body : Body) (set : Strings) : Type 0 where
  pub sound : IsBody after m.limits m.seed body
  pub members_are : members_of after body ≡ set
  pub changes : Changes before after [] (refs_of body)
  pub grown : Grown (hash_of m.seed) no_tables (tables_of after body)
