-- How a key goes on at a node.
use Rattle.std.specs.Prelude.{◌≡◌, ℕ, zero, suc, ◌<◌, ◌≤◌, Bool, true, false, List, [], ◌∷◌, ◌++◌, length, take, drop, nat_lt, if◌then◌else◌, Option, None, slice_get}
use Rattle.std.specs.List.{AllByRecursion}
use Rattle.blocks.specs.declared.BlockRef.{BlockRef}
use Rattle.rax_packed.specs.Nodes.{Link, Node, Leaf, Inner, IsNode, node_of}
use Rattle.rax_packed.specs.declared.node.Way.{Way}
use Rattle.rax_packed.specs.declared.node.Way.TheVariants as ways

abbrev pub prefix_in : Node → List ℕ
prefix_in (Leaf prefix value) = prefix
prefix_in (Inner prefix links) = prefix

abbrev pub links_in : Node → List Link
links_in (Leaf prefix value) = []
links_in (Inner prefix links) = links

-- the node without the first bytes of its prefix
abbrev pub shortened_by : ℕ → Node → Node
shortened_by from (Leaf prefix value) = Leaf (drop from prefix) value
shortened_by from (Inner prefix links) = Inner (drop from prefix) links

-- the key leaves the node's prefix behind so many bytes of it
pub record PartsAt (node : Node) (key : List ℕ) (shared : ℕ) : Type 0 where
  pub begin : List ℕ
  pub node_byte : ℕ
  pub node_rest : List ℕ
  pub other : ℕ
  pub other_rest : List ℕ
  pub prefix_is : prefix_in node ≡ begin ++ node_byte ∷ node_rest
  pub key_is : key ≡ begin ++ other ∷ other_rest
  pub apart : node_byte ≡ other → ⊥
  pub many : length begin ≡ shared

-- the key has all of an inner node's prefix, and goes on by a byte that no link has; the place of one for it
-- among the links, and where the rest of the key begins
pub record Lacks (node : Node) (key : List ℕ) (place from : ℕ) : Type 0 where
  pub prefix : List ℕ
  pub before : List Link
  pub after : List Link
  pub edge : ℕ
  pub below : List ℕ
  pub node_is : node ≡ Inner prefix (before ++ after)
  pub many : length before ≡ place
  pub key_is : key ≡ prefix ++ edge ∷ below
  pub begins : from ≡ suc (length prefix)
  pub less : AllByRecursion (λ l. l.edge < edge) before
  pub more : AllByRecursion (λ l. edge < l.edge) after

-- the key goes on by a link
pub record LeadsTo (node : Node) (key : List ℕ) (place from : ℕ) (to : BlockRef) : Type 0 where
  pub prefix : List ℕ
  pub before : List Link
  pub after : List Link
  pub edge : ℕ
  pub below : List ℕ
  pub node_is : node ≡ Inner prefix (before ++ (record { edge = edge; to = to }) ∷ after)
  pub many : length before ≡ place
  pub key_is : key ≡ prefix ++ edge ∷ below
  pub begins : from ≡ suc (length prefix)

abbrev pub IsWay : Node → List ℕ → Way → Type 0
IsWay node key (ways.Leaf value) = node ≡ Leaf key value
IsWay node key (ways.Parts shared) = PartsAt node key shared
IsWay node key (ways.Missing place from) = Lacks node key place from
IsWay node key (ways.Link place from to) = LeadsTo node key place from to

-- two links in the order of their edges
abbrev pub fork_links : ℕ → BlockRef → ℕ → BlockRef → List Link
fork_links byte moved other leaf =
    if nat_lt byte other
    then (record { edge = byte; to = moved }) ∷ (record { edge = other; to = leaf }) ∷ []
    else (record { edge = other; to = leaf }) ∷ (record { edge = byte; to = moved }) ∷ []

-- the bytes of an inner node of a key of sixteen bytes
pub record IsInnerBytes (bytes : List ℕ) : Type 0 where
  pub rest : ℕ
  pub few : rest ≤ 16
  pub node : IsNode rest bytes
  pub prefix : List ℕ
  pub links : List Link
  pub is : node_of bytes ≡ Inner prefix links

-- the link next to a place, on the one side or on the other
abbrev pub beside : Bool → List Link → ℕ → Option Link
beside true links place = slice_get links place
beside false links zero = None
beside false links (suc place) = slice_get links place

-- the node with its links on one side of a place alone
abbrev pub aside : Bool → ℕ → Node → Node
aside up place (Leaf prefix value) = Leaf prefix value
aside true place (Inner prefix links) = Inner prefix (drop place links)
aside false place (Inner prefix links) = Inner prefix (take place links)

-- a byte comes before another in a direction
abbrev pub IsByteAhead : Bool → ℕ → ℕ → Type 0
IsByteAhead true byte other = byte < other
IsByteAhead false byte other = other < byte
