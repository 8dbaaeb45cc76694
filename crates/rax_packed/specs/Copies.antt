-- A tree copied.
use Rattle.std.specs.Prelude.{◌≡◌, ℕ, [], length}
use Rattle.blocks.specs.declared.BlockRef.{BlockRef}
use Rattle.blocks.specs.Blocks.{Blocks, Changes}
use Rattle.rax_packed.specs.Trees.{entries_at, refs_at, IsTreeAt}

-- A tree of the same entries, with as many nodes, in blocks that weren't live.
pub record IsCopy (rest : ℕ) (b after : Blocks) (at new : BlockRef) : Type 0 where
  pub tree : IsTreeAt rest after new
  pub entries_are : entries_at rest after new ≡ entries_at rest b at
  pub as_many : length (refs_at rest after new) ≡ length (refs_at rest b at)
  pub changes : Changes b after [] (refs_at rest after new)
