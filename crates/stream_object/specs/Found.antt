-- A node found among the others by an id.
use Rattle.std.specs.Prelude.{◌≡◌, ℕ, ◌<◌, ◌≤◌, Bool, true, false, List, [], ◌∷◌, ◌++◌}
use Rattle.std.specs.List.{AllByRecursion}
use Rattle.stream_node.specs.declared.id.Id.{Id}
use Rattle.stream_node.specs.Ids.{id_number}
use Rattle.blocks.specs.Blocks.{Blocks, Changes}
use Rattle.rax_packed.specs.declared.tree.PackedTree.{PackedTree}
use Rattle.stream_object.specs.declared.spot.Spot.{Spot}
use Rattle.blocks.specs.declared.BlockRef.{BlockRef}
use Rattle.stream_object.specs.Block.{IsPut}
use Rattle.stream_object.specs.Parts.{Part, part, IsNodeOf, Rising, HasParts, parts_of, all_refs}

-- the key isn't below the id; or, looked for the other way, isn't above it
abbrev pub Reaches : Bool → Id → Part → Type 0
Reaches true id p = id_number id ≤ id_number p.key
Reaches false id p = id_number p.key ≤ id_number id

-- the key is on the other side of the id
abbrev pub Misses : Bool → Id → Part → Type 0
Misses true id p = id_number p.key < id_number id
Misses false id p = id_number id < id_number p.key

-- the nodes that a search has passed before it reached this place
abbrev pub passed : Bool → List Part → List Part → List Part
passed true before after = before
passed false before after = after

-- The node is among the others, and is the nearest that reaches the id.
pub record IsNear (up : Bool) (ps : List Part) (id : Id) (p : Part) : Type 0 where
  pub before : List Part
  pub after : List Part
  pub place : ps ≡ before ++ p ∷ after
  pub reaches : Reaches up id p
  pub passes : AllByRecursion (Misses up id) (passed up before after)

-- A node of this key stands in this block, among the others.
pub record Stands (ps : List Part) (key : Id) (at : BlockRef) : Type 0 where
  pub before : List Part
  pub after : List Part
  pub bytes : List ℕ
  pub place : ps ≡ before ++ part key at bytes ∷ after

-- what is seen of a node that was found
abbrev pub part_at : Spot → Part
part_at spot = part spot.key spot.at spot.bytes.now

-- Some nodes have given way to others, over the blocks of the tree and of its nodes.
pub record Exchanges (m after : Blocks) (old new : PackedTree) (ps : List Part) : Type 0 where
  pub parts : HasParts after new ps
  pub changes : Changes m after (all_refs m old) (all_refs after new)

-- A node of these bytes has come behind all others, in this block.
abbrev pub Comes : Blocks → Blocks → PackedTree → PackedTree → Id → List ℕ → BlockRef → Type 0
Comes m after old new key bytes at =
    let ps = parts_of m old in
    IsNodeOf key bytes → Rising (ps ++ part key at bytes ∷ []) → Exchanges m after old new (ps ++ part key at bytes ∷ [])

-- Bytes for a node stand in a block beside its own, which the tree still names.
pub record IsBeside (m mid : Blocks) (tree : PackedTree) (key : Id) (was at : BlockRef) (bytes : List ℕ) : Type 0 where
  pub parts : HasParts m tree (parts_of m tree)
  pub stands : Stands (parts_of m tree) key was
  pub put : IsPut m mid at bytes
  pub changes : Changes m mid [] (at ∷ [])

-- A node has these bytes now, in this block, wherever it stands among the others.
abbrev pub Becomes : Blocks → Blocks → PackedTree → PackedTree → Id → BlockRef → List ℕ → BlockRef → Type 0
Becomes m after old new key was bytes at =
    (s : Stands (parts_of m old) key was) → IsNodeOf key bytes
    → Rising (s.before ++ part key at bytes ∷ s.after)
    → Exchanges m after old new (s.before ++ part key at bytes ∷ s.after)
