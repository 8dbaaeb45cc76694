-- What a tally of blocks by the classes of their slabs has counted.
use Rattle.std.specs.Prelude.{◌≡◌, ℕ, ◌+◌, ◌-◌, ◌^◌, ◌<◌, min, List, slice_index}
use Rattle.blocks.specs.declared.BlockRef.{BlockRef}
use Rattle.blocks.specs.Slabs.{Heap}
use Rattle.slab_counts.specs.Counts.{count_in}

-- Each class has counted these blocks beside those from before. Its count goes no further than 2^64 - 1.
abbrev pub Counts : Heap → List BlockRef → List ℕ → List ℕ → Type 0
Counts h refs old new =
    (class : ℕ) → class < 36 → slice_index new class ≡ min (2 ^ 64 - 1) (slice_index old class + count_in h class refs)
