-- Which keys a move finds gone. As with EXPIRE, a key stays through the moment of its deadline, and is gone from the
-- next moment on.
use Rattle.std.specs.Prelude.{◌≡◌, ℕ, ◌<◌, ◌≤◌, Bool, nat_lt, List, [], ◌∷◌, ◌++◌, slice_get, Option, Some, None, if◌then◌else◌}
use Rattle.blocks.specs.declared.BlockRef.{BlockRef}
use Rattle.blocks.specs.Blocks.{IsIn}
use Rattle.rev_cursor.specs.Place.{place, end_of}
use Rattle.rehash_dict.specs.Table.{Element, Table, item}
use Rattle.rehash_dict.specs.Scan.{scanned}
use Rattle.expiry.specs.Timed.{Timed}

-- the deadline has passed at the moment
abbrev pub has_passed : ℕ → ℕ → Bool
has_passed deadline moment = nat_lt deadline moment

-- the key block of an element that is gone at the moment
abbrev pub gone_at : ℕ → Option (Element ℕ) → List BlockRef
gone_at moment None = []
gone_at moment (Some e) = if has_passed e.value moment then e.key ∷ [] else []

-- the key blocks of those of these elements that are gone at the moment
abbrev pub gone_of : Table ℕ → ℕ → List ℕ → List BlockRef
gone_of t moment [] = []
gone_of t moment (at ∷ rest) = gone_at moment (item t at) ++ gone_of t moment rest

-- the elements of the move at the kept cursor, and the cursor behind them
abbrev pub move_of : Timed → List ℕ × ℕ
move_of d = scanned d.table.older d.table.newer d.cursor

-- the key blocks of the move that are gone at the moment
abbrev pub gone_in : Timed → ℕ → List BlockRef
gone_in d moment = gone_of d.table moment (move_of d).0

-- the block names a key that is gone at the moment
pub record IsGone (t : Table ℕ) (moment : ℕ) (ref : BlockRef) : Type 0 where
  pub at : ℕ
  pub element : Element ℕ
  pub found : item t at ≡ Some element
  pub names : element.key ≡ ref
  pub past : element.value < moment

-- each of the blocks names a key that is gone
abbrev pub AreGone : Table ℕ → ℕ → List BlockRef → Type 0
AreGone t moment refs = (index : ℕ) (ref : BlockRef) → slice_get refs index ≡ Some ref → IsGone t moment ref

-- the blocks name each key that is gone and has its place from a cursor to the next one
abbrev pub NameAllGone : Table ℕ → ℕ → ℕ → ℕ → List BlockRef → Type 0
NameAllGone t moment cursor next refs = (at : ℕ) (e : Element ℕ) → item t at ≡ Some e → e.value < moment
    → place cursor ≤ place e.hash → place e.hash < end_of next → IsIn e.key refs
