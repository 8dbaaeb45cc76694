-- How a node's list ends: with its last entry.
use Rattle.std.specs.Prelude.{◌≡◌, Bool, List, ℕ, [], ◌∷◌, ◌++◌, length}
use Rattle.stream_node.specs.declared.id.Id.{Id}
use Rattle.stream_node.specs.Entry.{IsStart, number}

-- The list ends with the elements of an entry of this id, the last of which tells how many the others are.
pub record EndsIn (key : Id) (list : List (List ℕ)) (id : Id) : Type 0 where
  pub front : List (List ℕ)
  pub middle : List (List ℕ)
  pub deleted : Bool
  pub same : Bool
  pub behind : List (List ℕ)
  pub whole : list ≡ front ++ (middle ++ number (length middle) ∷ [])
  pub start : IsStart key (middle ++ number (length middle) ∷ []) deleted same id behind
