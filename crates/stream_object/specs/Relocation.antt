-- Bounded calls that move the blocks of a stream: what they pass and what they leave.
use Rattle.std.specs.Prelude.{◌≡◌, ℕ, ◌+◌, ◌<◌, ◌≤◌, Bool, true, false, List, [], ◌∷◌, ◌++◌, map, count_by, IfSome}
use Rattle.blocks.specs.declared.BlockRef.{BlockRef}
use Rattle.blocks.specs.declared.Moved.{Moved}
use Rattle.blocks.specs.Blocks.{Blocks, Changes}
use Rattle.blocks.specs.Slabs.{Heap, wants}
use Rattle.collection_walk.specs.Marks.{is_passed}
use Rattle.stream_node.specs.Ids.{id_number, key_id}
use Rattle.rax_packed.specs.Trees.{Entry, Mark}
use Rattle.rax_packed.specs.Maps as rax
use Rattle.rax_packed.specs.declared.tree.PackedTree.{PackedTree}
use Rattle.stream_object.specs.declared.stream.Stream.{Stream as Log}
use Rattle.stream_object.specs.Copied.{AreSame}
use Rattle.stream_object.specs.Parts.{parts_of, all_refs, HasParts}
use Rattle.stream_object.specs.Streams.{IsStream, marks, refs, stream_of}

-- the mark of a node of the tree, and that of a node that it names
abbrev pub node_mark : Mark → ℕ
node_mark n = id_number (key_id n.least)

abbrev pub entry_mark : Entry → ℕ
entry_mark e = id_number (key_id e.key)

-- the marks of a tree's nodes, and of those that it names
abbrev pub tree_marks : Blocks → PackedTree → List ℕ
tree_marks m tree = map node_mark (rax.marks_of m tree) ++ map entry_mark (rax.entries_of m tree)

-- A reference whose mark is passed wants no move, and another one stays.
pub record PassesOne (heap : Heap) (passed : ℕ → Bool) (mark : ℕ) (old new : BlockRef) : Type 0 where
  pub calm : passed mark ≡ true → wants heap new ≡ false
  pub stays : passed mark ≡ false → new ≡ old

-- the same of each
abbrev pub PassesAll : Heap → (ℕ → Bool) → List ℕ → List BlockRef → List BlockRef → Type 0
PassesAll heap passed [] [] [] = Unit {0}
PassesAll heap passed [] [] (b ∷ new) = ⊥
PassesAll heap passed [] (a ∷ old) new = ⊥
PassesAll heap passed (k ∷ marks) [] new = ⊥
PassesAll heap passed (k ∷ marks) (a ∷ old) [] = ⊥
PassesAll heap passed (k ∷ marks) (a ∷ old) (b ∷ new) = PassesOne heap passed k a b × PassesAll heap passed marks old new

-- Blocks of a tree and of the nodes that it names have moved: the nodes are the same, and so are the marks.
pub record Moves (m after : Blocks) (old new : PackedTree) : Type 0 where
  pub parts : HasParts after new (parts_of after new)
  pub same : AreSame (parts_of m old) (parts_of after new)
  pub changes : Changes m after (all_refs m old) (all_refs after new)
  pub marks_are : tree_marks after new ≡ tree_marks m old

-- The answer counts what was passed, no more than there was room for. Where some are left the call went on, and used all its
-- room but for 17 blocks at most.
pub record IsBounded (marks : List ℕ) (from room : ℕ) (answer : Moved) : Type 0 where
  pub used : answer.used ≡ count_by (is_passed from answer.next) marks
  pub within : answer.used ≤ room
  pub on : IfSome answer.next (λ next. (from < next) × (room ≤ answer.used + 17))

-- Blocks moved: the stream means what it meant, over the references that it has now.
pub record IsRelocated (m after : Blocks) (old new : Log) : Type 0 where
  pub is_stream : IsStream after new
  pub value_is : stream_of after new ≡ stream_of m old
  pub marks_are : marks after new ≡ marks m old
  pub changes : Changes m after (refs m old) (refs after new)
