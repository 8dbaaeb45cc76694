-- The block of a node: its bytes, and no others.
use Rattle.std.specs.Prelude.{◌≡◌, ℕ, List, Some}
use Rattle.blocks.specs.declared.BlockRef.{BlockRef}
use Rattle.blocks.specs.Blocks.{Blocks, with_block}

-- the block has exactly these bytes
abbrev pub Holds : Blocks → BlockRef → List ℕ → Type 0
Holds m at bytes = m at ≡ Some bytes

-- one block has exactly these bytes now, and all other blocks stay
abbrev pub IsPut : Blocks → Blocks → BlockRef → List ℕ → Type 0
IsPut before after at bytes = after ≡ with_block before at (Some bytes)
