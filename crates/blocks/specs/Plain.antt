-- What a plain store holds.
use Rattle.std.specs.Prelude.{ℕ, Bool, List, [], Option, Some, None, slice_index_or, if◌then◌else◌, ◌==◌}
use Rattle.std.specs.Global.{Vec}
use Rattle.blocks.specs.Blocks.{Blocks}
use Rattle.blocks.specs.Slabs.{Heap}
use Rattle.blocks.specs.Steps.{IsStep}

-- the bytes in each place, and whether a pass is open
pub record Plain : Type 0 where
  pub places : List (Option (List ℕ))
  pub passing : Bool

-- the bytes in a place of the slab
abbrev pub bytes_of : Option (Vec ℕ) → Option (List ℕ)
bytes_of None = None
bytes_of (Some v) = Some v.items

-- block n stands alone in place n
abbrev pub blocks_at : List (Option (List ℕ)) → Blocks
blocks_at places r = if r.slot == 0 then slice_index_or places r.slab None else None

-- the blocks of a plain store
abbrev pub plain_blocks : Plain → Blocks
plain_blocks p = blocks_at p.places

-- a plain store has no slab
abbrev pub plain_heap : Plain → Heap
plain_heap p = record { passing = p.passing; slabs = [] }

-- a plain store picks any place
abbrev pub IsPlainStep : Plain → Plain → Type 0
IsPlainStep before after = IsStep (plain_blocks before) (plain_heap before) (plain_blocks after) (plain_heap after)
