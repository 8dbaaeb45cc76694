-- The places of elements in a list.
use Rattle.std.specs.Prelude.{◌≡◌, ℕ, ◌<◌, List, length}
use Rattle.score_list.specs.Linked.{Element}

-- the cursor stands in this list, at this rank, where there is an element
abbrev pub IsCursor : (List Element × ℕ) → List Element → ℕ → Type 0
IsCursor cursor xs rank = (cursor ≡ (xs, rank)) × (rank < length xs)
