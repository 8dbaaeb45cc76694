-- Fields and values of an entry, by where they stand.
use Rattle.std.specs.Prelude.{◌≡◌, ◌⊎◌, ◌<◌, ℕ, suc, ◌*◌, Bool, true, false, List, [], ◌∷◌, length, take, slice_index_or}
use Rattle.std.specs.List.{zip}
use Rattle.stream_node.specs.Entry.{Pair}

-- so many fields and values, alternating
unfoldable pub alternating : ℕ → List (List ℕ) → List Pair
alternating (suc n) (field ∷ (value ∷ more)) = (field, value) ∷ alternating n more
alternating n list = []

-- Where the fields are the node's, these and the values; else fields and values in one list.
abbrev pub pairs_at : Bool → ℕ → List (List ℕ) → List (List ℕ) → List Pair
pairs_at true n fields values = zip (take n fields) (take n values)
pairs_at false n fields values = alternating n fields

-- how many elements stand where the fields are, and where the values are
abbrev pub fields_long : Bool → ℕ → ℕ
fields_long true n = n
fields_long false n = 2 * n

abbrev pub values_long : Bool → ℕ → ℕ
values_long true n = n
values_long false n = 0

-- the pair at a place
abbrev pub pair_at : List Pair → ℕ → Pair
pair_at pairs i = slice_index_or pairs i ([], [])

-- The first pair, and what stands behind it where the fields are and where the values are.
abbrev pub IsSplit : Bool → List (List ℕ) → List (List ℕ) → Pair → List (List ℕ) → List (List ℕ) → Type 0
IsSplit true fields values pair more others = (fields ≡ pair.0 ∷ more) × (values ≡ pair.1 ∷ others)
IsSplit false fields values pair more others = (fields ≡ pair.0 ∷ pair.1 ∷ more) × (values ≡ others)

-- There is no whole pair.
abbrev pub IsUnsplit : Bool → List (List ℕ) → List (List ℕ) → Type 0
IsUnsplit true fields values = (fields ≡ []) ⊎ (values ≡ [])
IsUnsplit false fields values = length fields < 2
