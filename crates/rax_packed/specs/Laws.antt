-- What a map depends on, and which keys its nodes have.
use Rattle.std.specs.Prelude.{◌≡◌, ℕ, ◌+◌, ◌≤◌, Bool, if◌then◌else◌, List, ◌++◌, map, count_by, IsSome}
use Rattle.std.specs.List.{AllByRecursion, sum_by}
use Rattle.blocks.specs.declared.BlockRef.{BlockRef}
use Rattle.blocks.specs.Blocks.{Blocks, IsIn, Changes, Owned}
use Rattle.rax_packed.specs.declared.tree.PackedTree.{PackedTree}
use Rattle.rax_packed.specs.Costs.{Cost, costs_of}
use Rattle.rax_packed.specs.Maps.{entries_of, refs_of, marks_of, IsSound}
use Rattle.rax_packed.specs.Packed.{value_at}
use Rattle.rax_packed.specs.Trees.{Entry, Mark}

-- the map is the same in both stores
pub record Stays (a b : Blocks) (tree : PackedTree) : Type 0 where
  pub entries_are : entries_of b tree ≡ entries_of a tree
  pub refs_are : refs_of b tree ≡ refs_of a tree
  pub marks_are : marks_of b tree ≡ marks_of a tree
  pub sound : IsSound a tree → IsSound b tree

pub record PackedLaws : Type 0 where
  -- a map depends on the blocks that it owns, and on no other
  pub own : (a b : Blocks) (tree : PackedTree) → ((r : BlockRef) → IsIn r (refs_of a tree) → b r ≡ a r) → Stays a b tree
  -- what others change among their blocks leaves it
  pub others : (a b : Blocks) (tree : PackedTree) (old new : List BlockRef) → Owned (refs_of a tree ++ old) a
      → Changes a b old new → Stays a b tree
  -- the least key below each node is a key of the map
  pub least : (a : Blocks) (tree : PackedTree) → IsSound a tree
      → AllByRecursion (λ m. IsSome (value_at (entries_of a tree) m.least)) (marks_of a tree)
  -- the marks name the references of the nodes, in their order
  pub named : (a : Blocks) (tree : PackedTree) → map (λ (m : Mark). m.at) (marks_of a tree) ≡ refs_of a tree
  -- the costs of a map have its keys, in their order
  pub keys : (a : Blocks) (tree : PackedTree) → map (λ (c : Cost). c.key) (costs_of a tree) ≡ map (λ (e : Entry). e.key) (entries_of a tree)
  -- each key has no more than 18 blocks
  pub few : (a : Blocks) (tree : PackedTree) → IsSound a tree → AllByRecursion (λ (c : Cost). c.blocks ≤ 18) (costs_of a tree)
  -- the keys that pass a test have as many blocks as there are values and nodes of such keys
  pub blocks : (a : Blocks) (tree : PackedTree) → IsSound a tree → (test : List ℕ → Bool)
      → sum_by (λ (c : Cost). if test c.key then c.blocks else 0) (costs_of a tree)
      ≡ count_by (λ (e : Entry). test e.key) (entries_of a tree) + count_by (λ (m : Mark). test m.least) (marks_of a tree)
