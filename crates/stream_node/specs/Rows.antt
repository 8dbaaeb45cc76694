-- Small lists, and what each is.
use Rattle.std.specs.Prelude.{ℕ, List, [], ◌∷◌, false}
use Rattle.stream_node.specs.declared.id.Id.{Id}
use Rattle.stream_node.specs.declared.fault.NodeFault.TheVariants as faults
use Rattle.stream_node.specs.Entry.{Stored}
use Rattle.stream_node.specs.Node.{Node, IsFault}

-- the id 5-0
abbrev pub five : Id
five = record { ms = 5; seq = 0 }

-- f with v
abbrev pub stored : Stored
stored = record { id = five; deleted = false; pairs = (102 ∷ [], 118 ∷ []) ∷ [] }

-- the flags 2, both differences 0, the value v, and 4 elements before the last, and what follows
abbrev pub entry : List (List ℕ) → List (List ℕ)
entry more = (50 ∷ []) ∷ (48 ∷ []) ∷ (48 ∷ []) ∷ (118 ∷ []) ∷ (52 ∷ []) ∷ more

-- these counts, one field f, 0, and the entries
abbrev pub row : ℕ → ℕ → List (List ℕ) → List (List ℕ)
row live deleted entries = (live ∷ []) ∷ (deleted ∷ []) ∷ (49 ∷ []) ∷ (102 ∷ []) ∷ (48 ∷ []) ∷ entries

pub record Rows : Type 0 where
  -- 1 live and 0 deleted
  pub node : Node five (row 49 48 (entry [])) (stored ∷ [])
  -- 0 live and 1 deleted, and the entry is not marked
  pub count : IsFault five (row 48 49 (entry [])) faults.Count
  -- nothing at all
  pub shape : IsFault five [] faults.Shape
  -- 2 live, and no second entry
  pub missing : IsFault five (row 50 48 (entry [])) faults.Shape
  -- 2 live, both of one id
  pub order : IsFault five (row 50 48 (entry (entry []))) faults.Order
