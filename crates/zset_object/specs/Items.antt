-- Where each member of a sorted set stands, with its score: its item number, and its place in the order.
use Rattle.std.specs.Prelude.{◌≡◌, ℕ, ℤ, ◌<◌, List, Option, Some, None, IsSome, slice_get}
use Rattle.std.specs.FinMap.{get}
use Rattle.blocks.specs.Blocks.{Blocks, bytes_at}
use Rattle.pack_pairs.specs.Pairs.{IsPairAt}
use Rattle.score_list.specs.Sorted.{Key}
use Rattle.score_list.specs.Cursor.{IsCursor as IsLinkedCursor}
use Rattle.score_table.specs.Scored as table
use Rattle.zset_object.specs.declared.scored.Body.{Body}
use Rattle.zset_object.specs.declared.scored.Body.TheVariants.{Empty, Pack, Table}
use Rattle.zset_object.specs.declared.scored.Scored.{Scored}
use Rattle.zset_object.specs.declared.cursor.Place.{Place}
use Rattle.zset_object.specs.declared.cursor.Place.TheVariants.{Packed, Linked}
use Rattle.zset_object.specs.declared.cursor.Cursor.{Cursor}
use Rattle.zset_object.specs.Packed.{keys_in}
use Rattle.zset_object.specs.Scored.{scores}

abbrev pub pair_in : Blocks → Body → ℕ → Option Key
pair_in blocks Empty at = None
pair_in blocks (Pack packed) at = slice_get (keys_in (bytes_at blocks packed.at)) at
pair_in blocks (Table t) at = table.pair_at blocks t at

-- the score and the member of an item number: those of the table's element, or in a packed form those at that rank
abbrev pub pair_at : Blocks → Scored → ℕ → Option Key
pair_at blocks s at = pair_in blocks s.body at

abbrev pub top_in : Body → ℕ
top_in Empty = 0
top_in (Pack packed) = packed.len
top_in (Table t) = t.table.top

-- a number above all item numbers: the table's, or the number of the members of a packed form
abbrev pub top_of : Scored → ℕ
top_of s = top_in s.body

-- Each member has exactly one item number, and its score there.
pub record IsArranged (blocks : Blocks) (s : Scored) : Type 0 where
  pub found : (score : ℤ) (member : List ℕ) → get (scores blocks s) member ≡ Some score
      → (at : ℕ) × (pair_at blocks s at ≡ Some (score, member))
  pub pair : (at : ℕ) (score : ℤ) (member : List ℕ) → pair_at blocks s at ≡ Some (score, member)
      → get (scores blocks s) member ≡ Some score
  pub apart : (at other : ℕ) (score another : ℤ) (member : List ℕ) → pair_at blocks s at ≡ Some (score, member)
      → pair_at blocks s other ≡ Some (another, member) → at ≡ other
  pub below : (at : ℕ) → IsSome (pair_at blocks s at) → at < top_of s

-- The member of a rank stands at this place of the form: at an offset of a listpack, at a link of an ordered list.
abbrev pub IsPlace : Blocks → Body → ℕ → Place → Type 0
IsPlace blocks Empty rank place = ⊥
IsPlace blocks (Pack packed) rank (Packed at) = IsPairAt (bytes_at blocks packed.at) rank at
IsPlace blocks (Pack packed) rank (Linked link) = ⊥
IsPlace blocks (Table t) rank (Packed at) = ⊥
IsPlace blocks (Table t) rank (Linked link) = IsLinkedCursor link t.list rank

-- the cursor is the place of the member at its rank
abbrev pub IsCursor : Blocks → Scored → Cursor → Type 0
IsCursor blocks s cursor = IsPlace blocks s.body cursor.rank cursor.place
