-- What a store of blocks holds, and what calls on it may change.
use Rattle.std.specs.Prelude.{◌≡◌, ℕ, ◌+◌, ◌-◌, Bool, ◌==◌, ◌&&◌, List, Option, None, is_some, IsSome, ◌≤◌, ◌<◌, ◌∷◌, take, drop, length, replicate, ◌++◌, [], unwrap_or, if◌then◌else◌}
use Rattle.blocks.specs.declared.BlockRef.{BlockRef}

-- both references name one block
abbrev pub ref_eq : BlockRef → BlockRef → Bool
ref_eq a b = (a.slab == b.slab) && (a.slot == b.slot)

-- the bytes of each live block
abbrev pub Blocks : Type 0
Blocks = BlockRef → Option (List ℕ)

-- no reference is live
abbrev pub no_blocks : Blocks
no_blocks r = None

-- the same blocks, but this under the reference
abbrev pub with_block : Blocks → BlockRef → Option (List ℕ) → Blocks
with_block blocks at content r = if ref_eq r at then content else blocks r

-- the bytes with a piece put over them from this place on
abbrev pub overwritten : List ℕ → ℕ → List ℕ → List ℕ
overwritten bytes from piece = take from bytes ++ piece ++ drop (from + length piece) bytes

-- the bytes with zero bytes behind them up to a length
abbrev pub widened : List ℕ → ℕ → List ℕ
widened bytes len = bytes ++ replicate (len - length bytes) 0

-- the bytes at another length: those that both lengths have, and zero bytes behind them
abbrev pub resized : List ℕ → ℕ → List ℕ
resized bytes len = take len bytes ++ replicate (len - length bytes) 0

-- the bytes with so many of them, from one place on, put over those from another place on
abbrev pub shifted : List ℕ → ℕ → ℕ → ℕ → List ℕ
shifted bytes from to count = overwritten bytes to (take count (drop from bytes))

-- the bytes of a live block
abbrev pub bytes_at : Blocks → BlockRef → List ℕ
bytes_at blocks at = unwrap_or (blocks at) []

-- 1 where the reference is live, else 0
abbrev pub live : Blocks → BlockRef → ℕ
live blocks r = if is_some (blocks r) then 1 else 0

-- how often the reference stands in the list
abbrev pub times : BlockRef → List BlockRef → ℕ
times r [] = 0
times r (at ∷ rest) = (if ref_eq at r then 1 else 0) + times r rest

-- the reference stands in the list
abbrev pub IsIn : BlockRef → List BlockRef → Type 0
IsIn r refs = 0 < times r refs

-- the reference doesn't stand in the list
abbrev pub IsOut : BlockRef → List BlockRef → Type 0
IsOut r refs = times r refs ≡ 0

-- all live references stand in one list
abbrev pub IsFinite : Blocks → Type 0
IsFinite blocks = (refs : List BlockRef) × ((r : BlockRef) → IsSome (blocks r) → IsIn r refs)

-- The second store holds the first one's blocks with the references `new` in place of `old`. Lists
-- of references stand for sets.
pub record Changes (before after : Blocks) (old new : List BlockRef) : Type 0 where
  -- both stores agree outside `old` and `new`
  pub kept : (r : BlockRef) → IsOut r old → IsOut r new → after r ≡ before r
  -- live afterwards are the references that were live without those of `old`, with those of `new`
  pub entered : (r : BlockRef) → IsIn r new → IsSome (after r)
  pub ended : (r : BlockRef) → IsIn r old → IsOut r new → after r ≡ None
  -- what is in `new` and not in `old` wasn't live
  pub fresh : (r : BlockRef) → IsIn r new → IsOut r old → before r ≡ None
  -- no reference stands twice in `new`
  pub once : (r : BlockRef) → times r new ≤ 1

-- each reference of the list is live, and none stands there twice
abbrev pub Owned : List BlockRef → Blocks → Type 0
Owned refs blocks = (r : BlockRef) → times r refs ≤ live blocks r

-- the list has each live reference once, and no other
abbrev pub Owns : List BlockRef → Blocks → Type 0
Owns refs blocks = (r : BlockRef) → times r refs ≡ live blocks r

-- The second store comes from the first by a list of steps, each a placing, a return, a write or a stretch.
pub data Served {S : Type 0} (step : S → S → Type 0) (first : S) : S → Type 0 where
  no_step : Served step first first
  one_more : (mid last : S) → Served step first mid → step mid last → Served step first last
