-- Where each member of a set stands.
use Rattle.std.specs.Prelude.{◌≡◌, ℕ, ◌<◌, List, Option, Some, None, IsSome, true, is_some, count_by, length, take, slice_get}
use Rattle.blocks.specs.Blocks.{Blocks, bytes_at}
use Rattle.intset.specs.Intset.{numbers_of}
use Rattle.listpack.specs.Pack.{IsAt, texts}
use Rattle.rehash_dict.specs.Table.{Element, item}
use Rattle.set_object.specs.declared.members.Body.{Body}
use Rattle.set_object.specs.declared.members.Body.TheVariants.{Empty, Numbers, Pack, Table}
use Rattle.set_object.specs.declared.members.Members.{Members}
use Rattle.set_object.specs.declared.cursor.Cursor.{Cursor}
use Rattle.set_object.specs.Strings.{set_of, has, IsOnce}
use Rattle.set_object.specs.Members.{members, listed, number_texts}

-- the bytes of an element's key, where there is an element
abbrev pub key_at : Blocks → Option (Element (Unit {0})) → Option (List ℕ)
key_at blocks None = None
key_at blocks (Some e) = Some (bytes_at blocks e.key)

abbrev pub member_in : Blocks → Body → ℕ → Option (List ℕ)
member_in blocks Empty at = None
member_in blocks (Numbers packed) at = slice_get (number_texts (bytes_at blocks packed.at)) at
member_in blocks (Pack packed) at = slice_get (texts (bytes_at blocks packed.at)) at
member_in blocks (Table t) at = key_at blocks (item t at)

-- the member of an item number: that of the dictionary's element, or in a packed form the one at that index
abbrev pub member_at : Blocks → Members → ℕ → Option (List ℕ)
member_at blocks m at = member_in blocks m.body at

abbrev pub top_in : Body → ℕ
top_in Empty = 0
top_in (Numbers packed) = packed.len
top_in (Pack packed) = packed.len
top_in (Table t) = t.top

-- a number above all item numbers: the dictionary's, or the number of the members of a packed form
abbrev pub top_of : Members → ℕ
top_of m = top_in m.body

-- Each member stands once in the set's own order, and has exactly one item number.
pub record IsArranged (blocks : Blocks) (m : Members) : Type 0 where
  pub listed_are : set_of (listed blocks m) ≡ members blocks m
  pub once : IsOnce (listed blocks m)
  pub found : (x : List ℕ) → has (members blocks m) x ≡ true → (at : ℕ) × (member_at blocks m at ≡ Some x)
  pub member : (at : ℕ) (x : List ℕ) → member_at blocks m at ≡ Some x → has (members blocks m) x ≡ true
  pub apart : (at other : ℕ) (x : List ℕ) → member_at blocks m at ≡ Some x → member_at blocks m other ≡ Some x
      → at ≡ other
  pub below : (at : ℕ) → IsSome (member_at blocks m at) → at < top_of m

-- The member at an index of the order stands at this place of the form: at the same index of an intset, at the offset
-- of an entry of a listpack, at the item number of an element of a dictionary.
abbrev pub IsPlace : Blocks → Body → ℕ → ℕ → Type 0
IsPlace blocks Empty index place = ⊥
IsPlace blocks (Numbers packed) index place =
    (place ≡ index) × (index < length (numbers_of (bytes_at blocks packed.at)))
IsPlace blocks (Pack packed) index place = IsAt (bytes_at blocks packed.at) index place
IsPlace blocks (Table t) index place = IsSome (item t place) × (count_by is_some (take place t.items) ≡ index)

-- the cursor is the place of the member at its index
abbrev pub IsCursor : Blocks → Members → Cursor → Type 0
IsCursor blocks m cursor = IsPlace blocks m.body cursor.index cursor.place
