-- When databases over the blocks of a store are sound: they own every live block, and each once.
use Rattle.std.specs.Prelude.{List}
use Rattle.blocks.specs.declared.BlockRef.{BlockRef}
use Rattle.blocks.specs.Blocks.{Blocks}
use Rattle.held.specs.Sound as held
use Rattle.keyspace.specs.Values.{value_refs, IsSound}
use Rattle.keyspace.specs.declared.value.Value.{Value}
use Rattle.keyspace.specs.Databases.{Bases}

abbrev pub IsArranged : Bases → Blocks → Type 0
IsArranged bases blocks = held.IsArranged IsSound bases blocks

-- The databases, and the values that are out of them with these references, name live blocks, none of them twice.
abbrev pub IsIntact : Bases → Blocks → List BlockRef → Type 0
IsIntact bases blocks out = held.IsIntact value_refs IsSound bases blocks out

-- The databases, and a value that is handed in, name live blocks, none of them twice, and the value is sound.
abbrev pub IsIntactWith : Bases → Blocks → Value → Type 0
IsIntactWith bases blocks value = held.IsIntactWith value_refs IsSound bases blocks value

-- The databases, and the values that are out of them with these references, name each live block exactly once, and no
-- other.
abbrev pub SoundBeside : Bases → Blocks → List BlockRef → Type 0
SoundBeside bases blocks out = held.SoundBeside value_refs IsSound bases blocks out

-- The databases name each live block exactly once, and no other.
abbrev pub Sound : Bases → Blocks → Type 0
Sound bases blocks = held.Sound value_refs IsSound bases blocks
