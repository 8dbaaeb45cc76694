-- Sets of labels in a tree: node k has the children 2k and 2k + 1, and its labels are those of either child. A
-- set of labels is a number, with a bit for each. The leaves, from node `bound` on, are the sets.
use Rattle.std.specs.Prelude.{◌≡◌, ◌≢◌, ℕ, ◌+◌, ◌^◌, ◌<◌, ◌≤◌, List, length, slice_index_or}
use Rattle.std.specs.Int.{bit_at}
use Rattle.std.specs.Int.Bits.{bit_or}

-- the labels of a node
abbrev pub word_of : List ℕ → ℕ → ℕ
word_of nodes k = slice_index_or nodes k 0

-- the node has the labels of either child
abbrev pub IsUnion : List ℕ → ℕ → Type 0
IsUnion nodes k = word_of nodes k ≡ bit_or (word_of nodes (k + k)) (word_of nodes (k + k + 1))

-- all inner nodes do but this one
abbrev pub IsMendedBut : ℕ → List ℕ → ℕ → Type 0
IsMendedBut bound nodes but = (k : ℕ) → 0 < k → k < bound → k ≢ but → IsUnion nodes k

-- all inner nodes do
abbrev pub IsMended : ℕ → List ℕ → Type 0
IsMended bound nodes = (k : ℕ) → 0 < k → k < bound → IsUnion nodes k

-- the leaves are the same, and as many
pub record SameLeaves (bound : ℕ) (before after : List ℕ) : Type 0 where
  pub long : length after ≡ length before
  pub leaves : (k : ℕ) → bound ≤ k → word_of after k ≡ word_of before k

-- a tree with so many levels below its root, or without a node
pub record IsTree (bound levels : ℕ) (nodes : List ℕ) : Type 0 where
  pub long : length nodes ≡ bound + bound
  pub few : levels ≤ 40
  pub power : bound ≢ 0 → bound ≡ 2 ^ levels
  pub mended : IsMended bound nodes

-- n is the least number with the label
pub record IsLeastWith (bound : ℕ) (nodes : List ℕ) (label n : ℕ) : Type 0 where
  pub within : n < bound
  pub has : bit_at (word_of nodes (bound + n)) label ≡ 1
  pub least : (m : ℕ) → m < n → bit_at (word_of nodes (bound + m)) label ≡ 0
