-- How many blocks of a list stand in the slabs of a class.
use Rattle.std.specs.Prelude.{◌≡◌, ℕ, Bool, List, count_by}
use Rattle.blocks.specs.declared.BlockRef.{BlockRef}
use Rattle.blocks.specs.Blocks.{Blocks, Owns}
use Rattle.blocks.specs.Slabs.{Heap, slab_at, is_of, used_of, IsSoundHeap}

-- the block stands in a slab of the class
abbrev pub in_class : Heap → ℕ → BlockRef → Bool
in_class h class r = is_of class (slab_at h r.slab)

-- how many references of the list name blocks in slabs of the class
abbrev pub count_in : Heap → ℕ → List BlockRef → ℕ
count_in h class refs = count_by (in_class h class) refs

pub record SlabCountLaws : Type 0 where
  -- a list that has each live reference once, and no other, has as many in the slabs of a class as these count
  pub used : (blocks : Blocks) (h : Heap) (refs : List BlockRef) → IsSoundHeap blocks h → Owns refs blocks → (class : ℕ)
      → count_in h class refs ≡ used_of h class
