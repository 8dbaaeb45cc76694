-- What edits place: nodes without a byte behind them, or nothing.
use Rattle.std.specs.Prelude.{◌≡◌, ℕ, List, None, Some}
use Rattle.blocks.specs.declared.BlockRef.{BlockRef}
use Rattle.blocks.specs.Blocks.{Blocks}
use Rattle.rax_packed.specs.Nodes.{Node, spelled}

-- each block that wasn't there before is just as long as the node that it holds
abbrev pub PlacesExactly : Blocks → Blocks → Type 0
PlacesExactly before after =
    (r : BlockRef) (bytes : List ℕ) → before r ≡ None → after r ≡ Some bytes → (node : Node) × (bytes ≡ spelled node)

-- no block is there that wasn't there before
abbrev pub PlacesNone : Blocks → Blocks → Type 0
PlacesNone before after = (r : BlockRef) → before r ≡ None → after r ≡ None
