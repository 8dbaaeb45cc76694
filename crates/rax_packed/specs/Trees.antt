-- The tree that stands in blocks.
use Rattle.std.specs.Prelude.{◌≡◌, ℕ, zero, suc, ◌-◌, List, [], ◌∷◌, ◌++◌, length, map, Some}
use Rattle.std.specs.List.{flat_map, AllByRecursion}
use Rattle.blocks.specs.declared.BlockRef.{BlockRef}
use Rattle.blocks.specs.Blocks.{Blocks, Changes, bytes_at}
use Rattle.rax_packed.specs.Nodes.{Node, Leaf, Inner, node_of, IsNode}

-- a key, or what is left of it below a node, with its value
pub record Entry : Type 0 where
  pub key : List ℕ
  pub value : BlockRef

-- a node with the least key below it
pub record Mark : Type 0 where
  pub least : List ℕ
  pub at : BlockRef

-- the node that a block holds
abbrev pub node_at : Blocks → BlockRef → Node
node_at blocks at = node_of (bytes_at blocks at)

-- the entry, or the mark, with more bytes before its key
abbrev pub under : List ℕ → Entry → Entry
under begin e = record { key = begin ++ e.key; value = e.value }

abbrev pub mark_under : List ℕ → Mark → Mark
mark_under begin m = record { least = begin ++ m.least; at = m.at }

-- The entries of a node, where `below` has those of the nodes that it names: a leaf's prefix is the key of its
-- one entry, and an inner node has those below each link, behind its prefix and the link's edge.
abbrev pub entries_in : (BlockRef → List Entry) → Node → List Entry
entries_in below (Leaf prefix value) = record { key = prefix; value = value } ∷ []
entries_in below (Inner prefix links) = flat_map (λ l. map (under (prefix ++ l.edge ∷ [])) (below l.to)) links

unfoldable pub entries : ℕ → Blocks → BlockRef → List Entry
entries zero blocks at = []
entries (suc levels) blocks at = entries_in (entries levels blocks) (node_at blocks at)

-- the references of a node and of all below it, from the top
abbrev pub refs_in : (BlockRef → List BlockRef) → Node → List BlockRef
refs_in below (Leaf prefix value) = []
refs_in below (Inner prefix links) = flat_map (λ l. below l.to) links

unfoldable pub refs : ℕ → Blocks → BlockRef → List BlockRef
refs zero blocks at = []
refs (suc levels) blocks at = at ∷ refs_in (refs levels blocks) (node_at blocks at)

-- the key of the first entry
abbrev pub first_key : List Entry → List ℕ
first_key [] = []
first_key (e ∷ more) = e.key

-- the same nodes, each with the least key below it
abbrev pub marks_in : (BlockRef → List Mark) → Node → List Mark
marks_in below (Leaf prefix value) = []
marks_in below (Inner prefix links) = flat_map (λ l. map (mark_under (prefix ++ l.edge ∷ [])) (below l.to)) links

unfoldable pub marks : ℕ → Blocks → BlockRef → List Mark
marks zero blocks at = []
marks (suc levels) blocks at =
    record { least = first_key (entries (suc levels) blocks at); at = at }
    ∷ marks_in (marks levels blocks) (node_at blocks at)

-- what holds of each node that a node names, where so many bytes of each key are left
abbrev pub Below : (ℕ → BlockRef → Type 0) → ℕ → Node → Type 0
Below holds rest (Leaf prefix value) = Unit {0}
Below holds rest (Inner prefix links) = AllByRecursion (λ l. holds (rest - suc (length prefix)) l.to) links

-- A tree stands at the reference, with so many levels of nodes at most, whose keys have so many bytes.
unfoldable pub IsTree : ℕ → ℕ → Blocks → BlockRef → Type 0
IsTree zero rest blocks at = ⊥
IsTree (suc levels) rest blocks at =
    (bytes : List ℕ) × (blocks at ≡ Some bytes) × IsNode rest bytes
    × Below (λ left to. IsTree levels left blocks to) rest (node_of bytes)

-- The same for a tree whose keys have so many bytes, each of whose nodes takes at least one but a last leaf.

abbrev pub entries_at : ℕ → Blocks → BlockRef → List Entry
entries_at rest blocks at = entries (suc rest) blocks at

abbrev pub refs_at : ℕ → Blocks → BlockRef → List BlockRef
refs_at rest blocks at = refs (suc rest) blocks at

abbrev pub marks_at : ℕ → Blocks → BlockRef → List Mark
marks_at rest blocks at = marks (suc rest) blocks at

abbrev pub IsTreeAt : ℕ → Blocks → BlockRef → Type 0
IsTreeAt rest blocks at = IsTree (suc rest) rest blocks at

-- The tree at one reference has become that at another, with these entries, and no block outside it has changed.
pub record Becomes (rest : ℕ) (b after : Blocks) (old new : BlockRef) (es : List Entry) : Type 0 where
  pub tree : IsTreeAt rest after new
  pub entries_are : entries_at rest after new ≡ es
  pub changes : Changes b after (refs_at rest b old) (refs_at rest after new)
