-- The blocks that the databases of a keyspace own: the nodes of the trees of their streams, and all others.
use Rattle.std.specs.Prelude.{List, [], Option, Some, None, map}
use Rattle.std.specs.List.{flat_map}
use Rattle.blocks.specs.declared.BlockRef.{BlockRef}
use Rattle.blocks.specs.Blocks.{Blocks}
use Rattle.rax_packed.specs.Maps.{refs_of, entries_of}
use Rattle.rax_packed.specs.Trees.{Entry}
use Rattle.held.specs.declared.databases.Base.{Base}
use Rattle.held.specs.Databases.{owned}
use Rattle.held.specs.Table.{Table, Element}
use Rattle.keyspace.specs.Databases.{Bases}
use Rattle.keyspace.specs.Values.{value_refs}
use Rattle.keyspace.specs.declared.value.Value.{Value}
use Rattle.keyspace.specs.declared.value.Value.TheVariants as kinds

-- the nodes of the tree that a stream stands on
abbrev pub tree_refs : Blocks → Value → List BlockRef
tree_refs blocks (kinds.Stream b) = refs_of blocks b.value.tree
tree_refs blocks other = []

-- the other blocks of a value: of a stream, those that its tree names
abbrev pub other_refs : Blocks → Value → List BlockRef
other_refs blocks (kinds.Stream b) = map (λ (e : Entry). e.value) (entries_of blocks b.value.tree)
other_refs blocks other = value_refs blocks other

-- the tree nodes of an element's value, and of all elements of a table
abbrev pub element_nodes : Blocks → Option (Element Value) → List BlockRef
element_nodes blocks None = []
element_nodes blocks (Some e) = tree_refs blocks e.value

abbrev pub table_nodes : Blocks → Table Value → List BlockRef
table_nodes blocks table = flat_map (element_nodes blocks) table.items

-- the tree nodes of all databases
abbrev pub tree_nodes : Bases → Blocks → List BlockRef
tree_nodes bases blocks = flat_map (λ (base : Base Value). table_nodes blocks base.keys) bases.bases

-- the other blocks that the databases own: of each key its own block, and the other blocks of its value
abbrev pub other_blocks : Bases → Blocks → List BlockRef
other_blocks bases blocks = owned (other_refs blocks) bases
