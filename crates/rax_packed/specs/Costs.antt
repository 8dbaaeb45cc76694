-- The blocks of each key of a map, and a pass over them.
use Rattle.std.specs.Prelude.{ℕ, zero, suc, ◌+◌, ◌-◌, not, nat_lt, if◌then◌else◌, List, [], ◌∷◌, ◌++◌, map, Option, Some, None}
use Rattle.std.specs.List.{filter}
use Rattle.std.specs.Ordering.{is_lt}
use Rattle.blocks.specs.declared.BlockRef.{BlockRef}
use Rattle.blocks.specs.Blocks.{Blocks}
use Rattle.rax_packed.specs.declared.pass.Pass.{Pass}
use Rattle.rax_packed.specs.declared.pass.Passed.{Passed}
use Rattle.rax_packed.specs.declared.tree.PackedTree.{PackedTree}
use Rattle.rax_packed.specs.Nodes.{Link, Node, Leaf, Inner}
use Rattle.rax_packed.specs.Packed.{order}
use Rattle.rax_packed.specs.Trees.{node_at}

-- a key, or what is left of it below a node, with the number of its blocks: the nodes whose least key it is, and that of its value
pub record Cost : Type 0 where
  pub key : List ℕ
  pub blocks : ℕ

-- the cost with more bytes before its key
abbrev pub cost_under : List ℕ → Cost → Cost
cost_under begin c = record { key = begin ++ c.key; blocks = c.blocks }

-- The costs below links, where `below` has those of a tree by the number of nodes that have its least key: so many at the first
-- link, and at each other one its top node alone.
abbrev pub costs_below : (ℕ → BlockRef → List Cost) → ℕ → List ℕ → List Link → List Cost
costs_below below nodes prefix [] = []
costs_below below nodes prefix (l ∷ links) = map (cost_under (prefix ++ l.edge ∷ [])) (below nodes l.to) ++ costs_below below 1 prefix links

-- the costs of a node, where so many nodes have its least key, itself among them
abbrev pub costs_in : (ℕ → BlockRef → List Cost) → ℕ → Node → List Cost
costs_in below nodes (Leaf prefix value) = record { key = prefix; blocks = nodes + 1 } ∷ []
costs_in below nodes (Inner prefix links) = costs_below below (nodes + 1) prefix links

unfoldable pub costs : ℕ → Blocks → ℕ → BlockRef → List Cost
costs zero blocks nodes at = []
costs (suc levels) blocks nodes at = costs_in (costs levels blocks) nodes (node_at blocks at)

-- the same for a tree whose keys have so many bytes
abbrev pub costs_at : ℕ → Blocks → ℕ → BlockRef → List Cost
costs_at rest blocks nodes at = costs (suc rest) blocks nodes at

abbrev pub root_costs : Blocks → Option BlockRef → List Cost
root_costs blocks None = []
root_costs blocks (Some at) = costs_at 16 blocks 1 at

-- the costs of a map's keys, in the order of the keys
abbrev pub costs_of : Blocks → PackedTree → List Cost
costs_of blocks tree = root_costs blocks tree.root

-- those of the keys that aren't before one
abbrev pub costs_from : List Cost → List ℕ → List Cost
costs_from costs key = filter (λ c. not (is_lt (order c.key key))) costs

-- a pass on its way: how many blocks it may still count, and the key before which it has ended
pub record Going : Type 0 where
  pub left : ℕ
  pub next : Option (List ℕ)

-- A pass comes to a key: it counts its blocks, or ends before it where fewer than 18 may still be counted.
abbrev pub counted : ℕ → Option (List ℕ) → Cost → Going
counted left (Some key) cost = record { left = left; next = Some key }
counted left None cost =
    if nat_lt left 18
    then record { left = left; next = Some cost.key }
    else record { left = left - cost.blocks; next = None }

-- a pass over keys one after the other
abbrev pub pass_over : Going → List Cost → Going
pass_over pass [] = pass
pass_over pass (c ∷ costs) = pass_over (counted pass.left pass.next c) costs

abbrev pub begun : ℕ → Going
begun room = record { left = room; next = None }

-- what a pass over these keys answers that may count so many blocks
abbrev pub passed : ℕ → List Cost → Passed
passed room costs = let end = pass_over (begun room) costs in record { used = room - end.left; next = end.next }

-- the same as code holds it
abbrev pub going : Pass → Going
going pass = record { left = pass.left; next = pass.next }
