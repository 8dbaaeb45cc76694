-- What a list depends on.
use Rattle.std.specs.Prelude.{◌≡◌, List, ◌++◌}
use Rattle.std.specs.List.{All}
use Rattle.blocks.specs.declared.BlockRef.{BlockRef}
use Rattle.blocks.specs.Blocks.{Blocks, IsIn, Changes, Owned}
use Rattle.quicklist.specs.Nodes.{IsExact}
use Rattle.quicklist.specs.Chain.{Chain, IsQuick, elements, refs}

-- A list depends on the blocks that it owns, and on no other.
pub record QuickLaws : Type 0 where
  -- where those are the same, so are its elements, and it is sound
  pub own : (a b : Blocks) (q : Chain) → ((r : BlockRef) → IsIn r (refs q) → b r ≡ a r) → elements b q ≡ elements a q
  pub sound : (a b : Blocks) (q : Chain) → ((r : BlockRef) → IsIn r (refs q) → b r ≡ a r) → IsQuick a q → IsQuick b q
  -- what others change among their blocks leaves its elements, and it is sound
  pub others : (a b : Blocks) (q : Chain) (old new : List BlockRef) → Owned (refs q ++ old) a → Changes a b old new
      → elements b q ≡ elements a q
  pub stays : (a b : Blocks) (q : Chain) (old new : List BlockRef) → Owned (refs q ++ old) a → Changes a b old new
      → IsQuick a q → IsQuick b q
  -- the block of each of its nodes has exactly the node's bytes
  pub exact : (a : Blocks) (q : Chain) → IsQuick a q → All (IsExact a) q.nodes
