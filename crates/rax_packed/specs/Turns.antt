-- The ways by which a seek goes on.
use Rattle.std.specs.Prelude.{◌≡◌, ℕ, suc, ◌+◌, ◌<◌, ◌≤◌, Bool, true, false, List, [], ◌∷◌, ◌++◌, length, take, Option, Some, None}
use Rattle.rax_packed.specs.Nodes.{Link, Node}
use Rattle.rax_packed.specs.Ways.{links_in, prefix_in, beside}
use Rattle.rax_packed.specs.declared.seek.Turn.{Turn}

-- the way on from a node by the link next to a place
pub record Turns (up : Bool) (node : Node) (place depth : ℕ) (path : List ℕ) (turn : Turn) : Type 0 where
  pub link : Link
  pub is : beside up (links_in node) place ≡ Some link
  pub to_is : turn.to ≡ link.to
  pub depth_is : turn.depth ≡ depth + length (prefix_in node) + 1
  pub path_is : take turn.depth turn.path ≡ take depth path ++ (prefix_in node ++ link.edge ∷ [])

-- the number of the link next to a place, of so many links
abbrev pub IsChosen : Bool → ℕ → ℕ → Option ℕ → Type 0
IsChosen true count place None = count ≤ place
IsChosen true count place (Some at) = (at < count) × (at ≡ place)
IsChosen false count place None = place ≡ 0
IsChosen false count place (Some at) = (at < count) × (suc at ≡ place)

-- the place among so many links that all of them lie beyond
abbrev pub IsNearEnd : Bool → ℕ → ℕ → Type 0
IsNearEnd true count place = place ≡ 0
IsNearEnd false count place = place ≡ count

-- the place beyond a link
abbrev pub IsBehind : Bool → ℕ → ℕ → Type 0
IsBehind true place next = next ≡ suc place
IsBehind false place next = next ≡ place
