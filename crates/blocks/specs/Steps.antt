-- The steps that a store may take by its calls, passes and moves apart.
use Rattle.std.specs.Prelude.{◌≡◌, ℕ, ◌+◌, ◌≤◌, List, Some, None, IsSome, length, replicate}
use Rattle.blocks.specs.declared.BlockRef.{BlockRef}
use Rattle.blocks.specs.Blocks.{Blocks, with_block, overwritten, resized, bytes_at}
use Rattle.blocks.specs.Slabs.{Heap, Stretches}

-- A placing, a return, a write into the bytes of a live block, or another length for one in its place took the first
-- blocks and slabs to the second; or a placing that found no memory, or a length of another class, left them. An open
-- pass stays open.
pub data IsStep (before : Blocks) (heap : Heap) (after : Blocks) (later : Heap) : Type 0 where
  stayed : after ≡ before → later ≡ heap → IsStep before heap after later
  placed : (at : BlockRef) (len : ℕ) → before at ≡ None → after ≡ with_block before at (Some (replicate len 0))
      → later.passing ≡ heap.passing → IsStep before heap after later
  returned : (at : BlockRef) → IsSome (before at) → after ≡ with_block before at None → later.passing ≡ heap.passing
      → IsStep before heap after later
  written : (at : BlockRef) (from : ℕ) (piece : List ℕ) → IsSome (before at)
      → from + length piece ≤ length (bytes_at before at)
      → after ≡ with_block before at (Some (overwritten (bytes_at before at) from piece)) → later ≡ heap
      → IsStep before heap after later
  stretched : (at : BlockRef) (len : ℕ) → IsSome (before at) → Stretches heap at len
      → after ≡ with_block before at (Some (resized (bytes_at before at) len)) → later ≡ heap
      → IsStep before heap after later
