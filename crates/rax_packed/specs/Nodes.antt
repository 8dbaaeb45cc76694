-- A node of the tree, and the bytes of its block. The layout is this product's own.
use Rattle.std.specs.Prelude.{◌≡◌, ℕ, zero, suc, ◌^◌, ◌<◌, ◌==◌, if◌then◌else◌, List, [], ◌∷◌, ◌++◌, length, take, drop, map, replicate, slice_index}
use Rattle.std.specs.List.{flat_map, AllByRecursion}
use Rattle.byteorder.specs.Endian.{little_bytes, little_number}
use Rattle.blocks.specs.declared.BlockRef.{BlockRef}

-- a byte by which keys go on from a node, and the node that they go on to
pub record Link : Type 0 where
  pub edge : ℕ
  pub to : BlockRef

-- A leaf has the rest of its key and the key's value. An inner node has the bytes that all keys below it go
-- on with, and a link for each byte that follows them.
pub data Node : Type 0 where
  Leaf : List ℕ → BlockRef → Node
  Inner : List ℕ → List Link → Node

-- a reference is twelve bytes: the slab in eight and the slot in four, the lowest byte first
unfoldable pub ref_bytes : BlockRef → List ℕ
ref_bytes r = little_bytes 8 r.slab ++ little_bytes 4 r.slot

abbrev pub edges_of : List Link → List ℕ
edges_of links = map (λ l. l.edge) links

abbrev pub refs_bytes : List Link → List ℕ
refs_bytes links = flat_map (λ l. ref_bytes l.to) links

-- The kind in one byte (0 for a leaf, 1 for an inner node), the length of the prefix in one byte, and the
-- prefix. A leaf then has its value. An inner node then has the number of its links in two bytes, the lowest
-- first, their edges, and their references.
abbrev pub spelled : Node → List ℕ
spelled (Leaf prefix value) = 0 ∷ length prefix ∷ (prefix ++ ref_bytes value)
spelled (Inner prefix links) =
    1 ∷ length prefix ∷ (prefix ++ (little_bytes 2 (length links) ++ (edges_of links ++ refs_bytes links)))

-- the bytes are those of the node, with any zero bytes behind an inner one
abbrev pub HoldsNode : List ℕ → Node → Type 0
HoldsNode bytes (Leaf prefix value) = bytes ≡ spelled (Leaf prefix value)
HoldsNode bytes (Inner prefix links) = (zeros : ℕ) × (bytes ≡ spelled (Inner prefix links) ++ replicate zeros 0)

-- each edge is greater than those before it
abbrev pub Rising : List Link → Type 0
Rising [] = Unit {0}
Rising (l ∷ links) = AllByRecursion (λ m. l.edge < m.edge) links × Rising links

-- a reference that code can hold
pub record IsRef (r : BlockRef) : Type 0 where
  pub slab : r.slab < 2 ^ 64
  pub slot : r.slot < 2 ^ 32

-- an inner node, where so many bytes of each key are left
pub record IsInner (rest : ℕ) (prefix : List ℕ) (links : List Link) : Type 0 where
  pub short : length prefix < rest
  pub some : 0 < length links
  pub rising : Rising links
  pub edges : AllByRecursion (λ l. l.edge < 256) links
  pub refs : AllByRecursion (λ l. IsRef l.to) links

-- a node that may stand where so many bytes of each key are left: the prefix of a leaf is all of them
abbrev pub Fits : ℕ → Node → Type 0
Fits rest (Leaf prefix value) = (length prefix ≡ rest) × IsRef value
Fits rest (Inner prefix links) = IsInner rest prefix links

-- The node that bytes tell. Where they hold a node, it is that one.

abbrev pub ref_from : List ℕ → BlockRef
ref_from bytes = record { slab = little_number 8 bytes; slot = little_number 4 (drop 8 bytes) }

abbrev pub links_from : ℕ → List ℕ → List ℕ → List Link
links_from zero edges refs = []
links_from (suc count) edges refs =
    record { edge = slice_index edges 0; to = ref_from refs } ∷ links_from count (drop 1 edges) (drop 12 refs)

abbrev pub prefix_from : List ℕ → List ℕ
prefix_from bytes = take (slice_index bytes 1) (drop 2 bytes)

abbrev pub body_from : List ℕ → List ℕ
body_from bytes = drop (slice_index bytes 1) (drop 2 bytes)

abbrev pub inner_from : List ℕ → List ℕ → Node
inner_from prefix body =
    Inner prefix (links_from (little_number 2 body) (drop 2 body) (drop (little_number 2 body) (drop 2 body)))

unfoldable pub node_of : List ℕ → Node
node_of bytes =
    if slice_index bytes 0 == 0
    then Leaf (prefix_from bytes) (ref_from (body_from bytes))
    else inner_from (prefix_from bytes) (body_from bytes)

-- the bytes hold a node that may stand where so many bytes of each key are left
pub record IsNode (rest : ℕ) (bytes : List ℕ) : Type 0 where
  pub holds : HoldsNode bytes (node_of bytes)
  pub fits : Fits rest (node_of bytes)
