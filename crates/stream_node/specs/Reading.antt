-- What is read of a node: its head, and of an entry its start and its body.
use Rattle.std.specs.Prelude.{ℕ, Bool, List, take}
use Rattle.stream_node.specs.declared.head.Head.{Head}
use Rattle.stream_node.specs.declared.body.Body.{Body}
use Rattle.stream_node.specs.declared.id.Id.{Id}
use Rattle.stream_node.specs.Entry.{Pair, IsStart, IsBody}
use Rattle.stream_node.specs.Rest.{rest_of}
use Rattle.stream_node.specs.Pairs.{pairs_at}

-- the node's fields
abbrev pub master_of : Head → List (List ℕ)
master_of head = take head.count (rest_of head.fields)

-- fields and values of an entry
abbrev pub pairs_of : Body → List Pair
pairs_of body = pairs_at body.same body.len (rest_of body.fields) (rest_of body.values)

-- The list begins with no start of an entry.
abbrev pub LacksStart : Id → List (List ℕ) → Type 0
LacksStart key list = (deleted same : Bool) (id : Id) (rest : List (List ℕ)) → IsStart key list deleted same id rest → ⊥

-- The list begins with no body of an entry.
abbrev pub LacksBody : Bool → List (List ℕ) → List (List ℕ) → Type 0
LacksBody same master list = (pairs : List Pair) (rest : List (List ℕ)) → IsBody same master list pairs rest → ⊥
