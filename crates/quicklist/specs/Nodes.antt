-- The nodes of a list, and what their blocks hold. (Redis, quicklist: a node is packed, a listpack of elements, or
-- plain, one element alone.)
use Rattle.std.specs.Prelude.{◌≡◌, ℕ, ◌+◌, ◌<◌, ◌≤◌, List, [], ◌∷◌, ◌++◌, length, map, take, drop, sum_by, get_or, Option, Some, None, IsSome}
use Rattle.std.specs.List.{All, flat_map}
use Rattle.std.specs.Borrow.{Bor}
use Rattle.std.specs.Global.{Vec}
use Rattle.blocks.specs.declared.BlockRef.{BlockRef}
use Rattle.blocks.specs.Blocks.{Blocks, bytes_at, with_block, Changes, Owned}
use Rattle.listpack.specs.Pack.{IsPack, texts, spellings_of}
use Rattle.listpack.specs.Writing.{entry, spelling}
use Rattle.quicklist.specs.declared.node.Container.{Container}
use Rattle.quicklist.specs.declared.node.Container.TheVariants.{Plain, Packed}
use Rattle.quicklist.specs.declared.node.Node.{Node}
use Rattle.quicklist.specs.declared.piece.Piece.{Piece}

-- the bytes of one listpack of all these elements, as the writer makes it
abbrev pub pack_len : List (List ℕ) → ℕ
pack_len list = 7 + length (flat_map entry list)

-- the elements of a node of these bytes
abbrev pub held : Container → List ℕ → List (List ℕ)
held Plain bytes = bytes ∷ []
held Packed bytes = texts bytes

-- the bytes are a listpack of at most 8,192 bytes, as the writer makes it of its elements
pub record IsPacked (bytes : List ℕ) : Type 0 where
  pub pack : IsPack bytes
  pub written : spellings_of bytes ≡ map spelling (texts bytes)
  pub short : length bytes ≤ 8192

-- a packed node is such a listpack, and a plain one an element of which it would be longer
abbrev pub IsHeld : Container → List ℕ → Type 0
IsHeld Plain bytes = 8192 < pack_len (bytes ∷ [])
IsHeld Packed bytes = IsPacked bytes

-- the bytes of a node are those of its block, and no others
abbrev pub bytes_of : Blocks → Node → List ℕ
bytes_of blocks node = bytes_at blocks node.at

abbrev pub node_list : Blocks → Node → List (List ℕ)
node_list blocks node = held node.container (bytes_of blocks node)

-- the block of a node holds so many elements as it counts, one at least
pub record IsNode (blocks : Blocks) (node : Node) : Type 0 where
  pub is_held : IsHeld node.container (bytes_of blocks node)
  pub counted : node.count ≡ length (node_list blocks node)
  pub some : 0 < node.count

-- the block of a node is live, and holds what the node counts
pub record IsReadable (blocks : Blocks) (node : Node) : Type 0 where
  pub live : IsSome (blocks node.at)
  pub is_node : IsNode blocks node

-- A node was placed of these bytes, under a reference that wasn't live, and all other blocks stay.
pub record IsPlacedOf (before after : Blocks) (bytes : List ℕ) (node : Node) : Type 0 where
  pub free : before node.at ≡ None
  pub placed : after ≡ with_block before node.at (Some bytes)

-- The block of a packed node is a listpack of these elements now, under this reference, and all other blocks stay.
pub record IsRemade (before after : Blocks) (node : Node) (list : List (List ℕ)) (at : BlockRef) : Type 0 where
  pub changes : Changes before after (node.at ∷ []) (at ∷ [])
  pub packed : IsPacked (bytes_at after at)
  pub list_is : texts (bytes_at after at) ≡ list

-- A packed node has room for the element beside its others.
pub record HasSpace (blocks : Blocks) (node : Node) (element : List ℕ) : Type 0 where
  pub packed : node.container ≡ Packed
  pub short : length (bytes_of blocks node) + length (entry element) ≤ 8192

-- how many bytes a node of these elements has: as many as one listpack of them, or as the element alone
abbrev pub node_len : Container → List (List ℕ) → ℕ
node_len Plain list = length (flat_map (λ element. element) list)
node_len Packed list = pack_len list

-- the block of a node is as long as the node, and no longer
abbrev pub IsExact : Blocks → Node → Type 0
IsExact blocks node = length (bytes_at blocks node.at) ≡ node_len node.container (node_list blocks node)

abbrev pub count_of : Node → ℕ
count_of node = node.count

abbrev pub container_of : Node → Container
container_of node = node.container

abbrev pub container_of_piece : Piece → Container
container_of_piece piece = piece.container

abbrev pub refs_of : List Node → List BlockRef
refs_of nodes = map (λ (node : Node). node.at) nodes

abbrev pub elements_of : Blocks → List Node → List (List ℕ)
elements_of blocks nodes = flat_map (node_list blocks) nodes

-- the node at an index, or one of no elements where there is none
abbrev pub node_at : List Node → ℕ → Node
node_at nodes k = get_or nodes k (record { at = record { slab = 0; slot = 0 }; count = 0; container = Plain })

-- an element may be put into node k, before the element j there: its index in the list is this one
pub record IsGap (nodes : List Node) (index k j : ℕ) : Type 0 where
  pub inside : k < length nodes
  pub before : sum_by count_of (take k nodes) + j ≡ index
  pub among : j ≤ count_of (node_at nodes k)

-- the nodes own their blocks, and each block is that of its node
pub record IsChain (blocks : Blocks) (nodes : List Node) : Type 0 where
  pub owned : Owned (refs_of nodes) blocks
  pub each : All (IsNode blocks) nodes

-- the element at the index stands in node k, at index j there
pub record IsPlace (nodes : List Node) (index k j : ℕ) : Type 0 where
  pub inside : k < length nodes
  pub before : sum_by count_of (take k nodes) + j ≡ index
  pub among : sum_by count_of (take k nodes) + j < sum_by count_of (take (k + 1) nodes)

-- what a node is placed of
abbrev pub piece_list : Piece → List (List ℕ)
piece_list piece = held piece.container piece.bytes.now

-- those of three pieces
abbrev pub three : Piece → Piece → Piece → List (List ℕ)
three before middle behind = piece_list before ++ (piece_list middle ++ piece_list behind)

pub record IsPiece (piece : Piece) : Type 0 where
  pub is_held : IsHeld piece.container piece.bytes.now
  pub counted : piece.count ≡ length (piece_list piece)
  pub some : 0 < piece.count

-- the elements of a listpack, of which there may be none
pub record IsPart (piece : Piece) : Type 0 where
  pub packed : piece.container ≡ Packed
  pub is_packed : IsPacked piece.bytes.now
  pub counted : piece.count ≡ length (texts piece.bytes.now)

-- the pack is a listpack of the element alone, and there is none exactly where it is too long for a packed node
abbrev pub IsAlone : Option (Vec ℕ) → List ℕ → Type 0
IsAlone None element = 8192 < pack_len (element ∷ [])
IsAlone (Some v) element = IsPacked v.items × (texts v.items ≡ element ∷ [])

-- the elements of what is left of nodes
abbrev pub left_list : Option (Vec ℕ) → List (List ℕ)
left_list None = []
left_list (Some v) = texts v.items

abbrev pub rest_list : Option (Bor (Vec ℕ)) → List (List ℕ)
rest_list None = []
rest_list (Some v) = texts v.now.items

-- Nodes were placed of these pieces, under references that weren't live, and all other blocks stay.
pub record Placed (before after : Blocks) (pieces : List Piece) (fresh : List Node) : Type 0 where
  pub changes : Changes before after [] (refs_of fresh)
  pub each : All (IsNode after) fresh
  pub list : elements_of after fresh ≡ flat_map piece_list pieces
  pub containers : map container_of fresh ≡ map container_of_piece pieces

abbrev pub Inserted : Blocks → Blocks → List Node → List Node → ℕ → List Piece → Type 0
Inserted before after old new k pieces =
    (fresh : List Node) × Placed before after pieces fresh × (new ≡ take k old ++ (fresh ++ drop k old))

-- Nodes that were placed of these pieces stand in the place of the nodes from k to below e.
pub record Exchanged (before after : Blocks) (old new : List Node) (k e : ℕ) (pieces : List Piece) : Type 0 where
  pub chain : IsChain after new
  pub list : elements_of after new ≡ elements_of before (take k old)
      ++ (flat_map piece_list pieces ++ elements_of before (drop e old))
  pub changes : Changes before after (refs_of old) (refs_of new)
  pub containers : map container_of new
      ≡ take k (map container_of old) ++ (map container_of_piece pieces ++ drop e (map container_of old))
