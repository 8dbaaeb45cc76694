-- Elements that are a text, taken out. (Redis command reference, LREM: the first ones from the head on, the first ones
-- from the tail on, or all.)
use Rattle.std.specs.Prelude.{◌≡◌, ℕ, zero, suc, ◌+◌, ◌<◌, ◌≤◌, min, List, [], ◌∷◌, ◌++◌, length, Bool, not, ◌&&◌, bytes_eq, nat_le, nat_lt, if◌then◌else◌}
use Rattle.std.specs.List.{All, count_by, filter}
use Rattle.std.specs.VecDeque.{deque_len, deque_capacity}
use Rattle.blocks.specs.declared.BlockRef.{BlockRef}
use Rattle.blocks.specs.Blocks.{Blocks, Changes, times}
use Rattle.listpack.specs.Pack.{texts}
use Rattle.quicklist.specs.declared.node.Container.TheVariants.{Packed}
use Rattle.quicklist.specs.declared.node.Node.{Node}
use Rattle.quicklist.specs.declared.reach.End.{End}
use Rattle.quicklist.specs.declared.reach.End.TheVariants.{Head, Tail}
use Rattle.quicklist.specs.declared.reach.Reach.{Reach}
use Rattle.quicklist.specs.declared.clearing.Left.{Left}
use Rattle.quicklist.specs.declared.clearing.Left.TheVariants.{Whole, Nothing, Part}
use Rattle.quicklist.specs.declared.rebuilt.Rebuilt.{Rebuilt}
use Rattle.quicklist.specs.Nodes.{IsNode, IsPacked, IsPlacedOf, refs_of, elements_of}

-- how many elements are the text
abbrev pub equals : List ℕ → List (List ℕ) → ℕ
equals text list = count_by (λ element. bytes_eq element text) list

-- the elements that are another text
abbrev pub others : List ℕ → List (List ℕ) → List (List ℕ)
others text list = filter (λ element. not (bytes_eq element text)) list

-- how many go: as many as are wanted where there are so many, else all. 0 stands for all.
abbrev pub going : ℕ → ℕ → ℕ
going zero all = all
going (suc n) all = min (suc n) all

-- The elements up to a place, so many of which are the text, are left without those, and the others stay.
pub record IsFromHead (text : List ℕ) (many : ℕ) (old new : List (List ℕ)) : Type 0 where
  pub front : List (List ℕ)
  pub rest : List (List ℕ)
  pub was : old ≡ front ++ rest
  pub is : new ≡ others text front ++ rest
  pub counted : equals text front ≡ many

-- The same of the elements from a place on.
pub record IsFromTail (text : List ℕ) (many : ℕ) (old new : List (List ℕ)) : Type 0 where
  pub rest : List (List ℕ)
  pub back : List (List ℕ)
  pub was : old ≡ rest ++ back
  pub is : new ≡ rest ++ others text back
  pub counted : equals text back ≡ many

abbrev pub IsFrom : End → List ℕ → ℕ → List (List ℕ) → List (List ℕ) → Type 0
IsFrom Head text many old new = IsFromHead text many old new
IsFrom Tail text many old new = IsFromTail text many old new

-- Of the elements that are the text, the first ones from that end on were taken out, and this many: those that were
-- wanted, or all where there are fewer, or where 0 are wanted.
pub record Removes (text : List ℕ) (end : End) (wanted many : ℕ) (old new : List (List ℕ)) : Type 0 where
  pub many_is : many ≡ going wanted (equals text old)
  pub taken : IsFrom end text many old new

-- whether the element at this index of a list goes
abbrev pub goes : Reach → ℕ → List ℕ → Bool
goes reach index element = nat_le reach.from index && (nat_lt index reach.to && bytes_eq element reach.text.now)

-- the elements from this index on without those that go
abbrev pub cleared : Reach → ℕ → List (List ℕ) → List (List ℕ)
cleared reach index [] = []
cleared reach index (element ∷ list) =
    if goes reach index element then cleared reach (suc index) list else element ∷ cleared reach (suc index) list

-- These elements are left of those of a node.
abbrev pub IsLeft : List (List ℕ) → List (List ℕ) → Left → Type 0
IsLeft was list Whole = list ≡ was
IsLeft was list Nothing = list ≡ []
IsLeft was list (Part pack count) =
    IsPacked pack.items × (texts pack.items ≡ list) × (count ≡ length list) × (0 < count)

-- what is left is what a node can hold
abbrev pub IsKept : Left → Type 0
IsKept Whole = Unit {0}
IsKept Nothing = Unit {0}
IsKept (Part pack count) = IsPacked pack.items × (count ≡ length (texts pack.items)) × (0 < count)

-- a packed node
abbrev pub IsPackedNode : Node → Type 0
IsPackedNode node = node.container ≡ Packed

-- Nodes of these elements were made of old ones: some are the same, some were placed, and some old ones go.
pub record IsRebuilt (before after : Blocks) (old : List Node) (list : List (List ℕ)) (r : Rebuilt) : Type 0 where
  pub changes : Changes before after [] (refs_of r.placed.items)
  pub balance : (at : BlockRef)
      → times at (refs_of r.nodes.items) + times at (refs_of r.replaced.items)
      ≡ times at (refs_of old) + times at (refs_of r.placed.items)
  pub within : (at : BlockRef) → times at (refs_of r.replaced.items) ≤ times at (refs_of old)
  pub each : All (IsNode after) r.nodes.items
  pub list_is : elements_of after r.nodes.items ≡ list
  pub packed : All IsPackedNode old → All IsPackedNode r.nodes.items
  pub fewer : length r.nodes.items ≤ length old

-- one node more can be taken up
pub record IsOpen (r : Rebuilt) : Type 0 where
  pub nodes : deque_len r.nodes < deque_capacity r.nodes
  pub placed : deque_len r.placed < deque_capacity r.placed
  pub replaced : deque_len r.replaced < deque_capacity r.replaced

-- there is room for so many nodes, and at most so many of it is taken
pub record HasRoom (r : Rebuilt) (used most : ℕ) : Type 0 where
  pub nodes : most ≤ deque_capacity r.nodes
  pub placed : most ≤ deque_capacity r.placed
  pub replaced : most ≤ deque_capacity r.replaced
  pub nodes_used : length r.nodes.items ≤ used
  pub placed_used : length r.placed.items ≤ used
  pub replaced_used : length r.replaced.items ≤ used

-- these nodes were added to each part, within its room
pub record IsGrown (old new : Rebuilt) (nodes placed replaced : List Node) : Type 0 where
  pub nodes_is : new.nodes.items ≡ old.nodes.items ++ nodes
  pub placed_is : new.placed.items ≡ old.placed.items ++ placed
  pub replaced_is : new.replaced.items ≡ old.replaced.items ++ replaced
  pub nodes_room : deque_capacity new.nodes ≡ deque_capacity old.nodes
  pub placed_room : deque_capacity new.placed ≡ deque_capacity old.placed
  pub replaced_room : deque_capacity new.replaced ≡ deque_capacity old.replaced

-- a packed node was placed of these bytes, under a reference that wasn't live
pub record IsFresh (before after : Blocks) (fresh : Node) (bytes : List ℕ) (count : ℕ) : Type 0 where
  pub placed : IsPlacedOf before after bytes fresh
  pub counted : fresh.count ≡ count
  pub container : fresh.container ≡ Packed

-- a node of which this is left was taken up
abbrev pub IsAdded : Blocks → Blocks → Node → Left → Rebuilt → Rebuilt → Type 0
IsAdded before after node Whole old new = (after ≡ before) × IsGrown old new (node ∷ []) [] []
IsAdded before after node Nothing old new = (after ≡ before) × IsGrown old new [] [] (node ∷ [])
IsAdded before after node (Part pack count) old new =
    (fresh : Node) × IsFresh before after fresh pack.items count × IsGrown old new (fresh ∷ []) (fresh ∷ []) (node ∷ [])
