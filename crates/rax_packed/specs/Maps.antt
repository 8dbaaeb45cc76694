-- What a `PackedTree` is in the blocks of a store.
use Rattle.std.specs.Prelude.{◌≡◌, List, [], length, Option, Some, None}
use Rattle.blocks.specs.declared.BlockRef.{BlockRef}
use Rattle.blocks.specs.Blocks.{Blocks, Owned}
use Rattle.rax_packed.specs.declared.tree.PackedTree.{PackedTree}
use Rattle.rax_packed.specs.Trees.{Entry, Mark, entries_at, refs_at, marks_at, IsTreeAt}

abbrev pub root_entries : Blocks → Option BlockRef → List Entry
root_entries blocks None = []
root_entries blocks (Some at) = entries_at 16 blocks at

abbrev pub root_refs : Blocks → Option BlockRef → List BlockRef
root_refs blocks None = []
root_refs blocks (Some at) = refs_at 16 blocks at

abbrev pub root_marks : Blocks → Option BlockRef → List Mark
root_marks blocks None = []
root_marks blocks (Some at) = marks_at 16 blocks at

abbrev pub IsRoot : Blocks → Option BlockRef → Type 0
IsRoot blocks None = Unit {0}
IsRoot blocks (Some at) = IsTreeAt 16 blocks at

-- the keys of the map with their values, in the order of the keys
abbrev pub entries_of : Blocks → PackedTree → List Entry
entries_of blocks tree = root_entries blocks tree.root

-- the references that the map owns: those of its nodes
abbrev pub refs_of : Blocks → PackedTree → List BlockRef
refs_of blocks tree = root_refs blocks tree.root

-- its nodes, each with the least key below it
abbrev pub marks_of : Blocks → PackedTree → List Mark
marks_of blocks tree = root_marks blocks tree.root

-- A tree of keys of sixteen bytes stands in the blocks, no reference of it stands twice, and it has as many nodes and keys
-- as it counts.
pub record IsSound (blocks : Blocks) (tree : PackedTree) : Type 0 where
  pub stands : IsRoot blocks tree.root
  pub owned : Owned (refs_of blocks tree) blocks
  pub nodes_are : tree.nodes ≡ length (refs_of blocks tree)
  pub keys_are : tree.keys ≡ length (entries_of blocks tree)
