-- Where each field of a hash stands, with its value.
use Rattle.std.specs.Prelude.{◌≡◌, ℕ, ◌<◌, List, Option, Some, None, IsSome, is_some, count_by, take, slice_get}
use Rattle.std.specs.FinMap.{get}
use Rattle.blocks.specs.declared.BlockRef.{BlockRef}
use Rattle.blocks.specs.Blocks.{Blocks, bytes_at}
use Rattle.pack_pairs.specs.Pairs.{Pair, IsOnce, IsPairAt, pairs, map_of_pairs}
use Rattle.rehash_dict.specs.Table.{Element, item}
use Rattle.hash_object.specs.declared.fields.Body.{Body}
use Rattle.hash_object.specs.declared.fields.Body.TheVariants.{Empty, Pack, Table}
use Rattle.hash_object.specs.declared.fields.Fields.{Fields}
use Rattle.hash_object.specs.declared.cursor.Cursor.{Cursor}
use Rattle.hash_object.specs.Fields.{fields, listed}

-- the bytes of an element's field and of its value, where there is an element
abbrev pub entry_at : Blocks → Option (Element BlockRef) → Option Pair
entry_at blocks None = None
entry_at blocks (Some e) = Some (bytes_at blocks e.key, bytes_at blocks e.value)

abbrev pub pair_in : Blocks → Body → ℕ → Option Pair
pair_in blocks Empty at = None
pair_in blocks (Pack packed) at = slice_get (pairs (bytes_at blocks packed.at)) at
pair_in blocks (Table t) at = entry_at blocks (item t at)

-- the field and value of an item number: those of the dictionary's element, or in a packed form those at that index
abbrev pub pair_at : Blocks → Fields → ℕ → Option Pair
pair_at blocks f at = pair_in blocks f.body at

abbrev pub top_in : Body → ℕ
top_in Empty = 0
top_in (Pack packed) = packed.len
top_in (Table t) = t.top

-- a number above all item numbers: the dictionary's, or the number of the fields of a packed form
abbrev pub top_of : Fields → ℕ
top_of f = top_in f.body

-- Each field stands once in the hash's own order, with its value, and has exactly one item number.
pub record IsArranged (blocks : Blocks) (f : Fields) : Type 0 where
  pub listed_are : map_of_pairs (listed blocks f) ≡ fields blocks f
  pub once : IsOnce (listed blocks f)
  pub found : (k v : List ℕ) → get (fields blocks f) k ≡ Some v → (at : ℕ) × (pair_at blocks f at ≡ Some (k, v))
  pub pair : (at : ℕ) (k v : List ℕ) → pair_at blocks f at ≡ Some (k, v) → get (fields blocks f) k ≡ Some v
  pub apart : (at other : ℕ) (k v w : List ℕ) → pair_at blocks f at ≡ Some (k, v)
      → pair_at blocks f other ≡ Some (k, w) → at ≡ other
  pub below : (at : ℕ) → IsSome (pair_at blocks f at) → at < top_of f

-- The pair at an index of the order stands at this place of the form: at the offset of its field in a listpack, at the
-- item number of an element of a dictionary.
abbrev pub IsPlace : Blocks → Body → ℕ → ℕ → Type 0
IsPlace blocks Empty index place = ⊥
IsPlace blocks (Pack packed) index place = IsPairAt (bytes_at blocks packed.at) index place
IsPlace blocks (Table t) index place = IsSome (item t place) × (count_by is_some (take place t.items) ≡ index)

-- the cursor is the place of the pair at its index
abbrev pub IsCursor : Blocks → Fields → Cursor → Type 0
IsCursor blocks f cursor = IsPlace blocks f.body cursor.index cursor.place
