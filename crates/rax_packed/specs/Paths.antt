-- The nodes of a key's way whose least key it is, and what is left where they have moved.
use Rattle.std.specs.Prelude.{◌≡◌, ℕ, ◌+◌, Bool, true, false, List, [], ◌∷◌, map, if◌then◌else◌}
use Rattle.std.specs.List.{filter}
use Rattle.std.specs.Ordering.{is_eq}
use Rattle.blocks.specs.declared.BlockRef.{BlockRef}
use Rattle.blocks.specs.Blocks.{ref_eq}
use Rattle.blocks.specs.Slabs.{Heap, wants}
use Rattle.rax_packed.specs.Trees.{Entry, Mark, first_key}
use Rattle.rax_packed.specs.Packed.{order}

-- the key is the least one below a node
abbrev pub is_least : List ℕ → Mark → Bool
is_least key m = is_eq (order m.least key)

-- the key is the first of these entries
abbrev pub is_first : List Entry → List ℕ → Bool
is_first es key = is_eq (order (first_key es) key)

-- the nodes whose least key is this one, from the top
unfoldable pub nodes_with : List Mark → List ℕ → List BlockRef
nodes_with marks key = map (λ m. m.at) (filter (is_least key) marks)

-- A node after those of the key were passed: its least key is the same. A node of the key wants no move; every other
-- node, and one that wanted none, has the reference that it had.
pub record IsPassed (before after : Heap) (key : List ℕ) (old new : Mark) : Type 0 where
  pub least : new.least ≡ old.least
  pub calm : is_least key old ≡ true → wants after new.at ≡ false
  pub others : is_least key old ≡ false → new.at ≡ old.at
  pub stays : wants before old.at ≡ false → new.at ≡ old.at

-- the same of each node
abbrev pub ArePassed : Heap → Heap → List ℕ → List Mark → List Mark → Type 0
ArePassed before after key [] [] = Unit {0}
ArePassed before after key [] (n ∷ news) = ⊥
ArePassed before after key (m ∷ olds) [] = ⊥
ArePassed before after key (m ∷ olds) (n ∷ news) = IsPassed before after key m n × ArePassed before after key olds news

-- how many nodes have another reference than before
abbrev pub moved : List Mark → List Mark → ℕ
moved [] news = 0
moved (m ∷ olds) [] = 0
moved (m ∷ olds) (n ∷ news) = (if ref_eq m.at n.at then 0 else 1) + moved olds news
