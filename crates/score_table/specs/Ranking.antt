-- Finite maps from members to scores, and the order of their pairs. (Redis command reference, data type Sorted sets:
-- members are ordered by their scores, and lexicographically where these are the same.)
use Rattle.std.specs.Prelude.{◌≡◌, ◌↔◌, ℤ, List, [], ◌∷◌, Contains, Some}
use Rattle.std.specs.declared.cmp.Ordering.TheVariants.{Less}
use Rattle.std.specs.Ordering.{nat_cmp}
use Rattle.std.specs.Cmp.Lexicographic.{slice_cmp}
use Rattle.std.specs.FinMap.{FinMap, get, remove}
use Rattle.score_list.specs.Sorted.{Key, key_cmp}

-- a finite map from members to scores
abbrev pub ScoreMap : Type 0
ScoreMap = FinMap (slice_cmp nat_cmp) ℤ

-- the pair of a score and a member stands before each of these
abbrev pub Leads : Key → List Key → Type 0
Leads key [] = Unit {0}
Leads key (k ∷ keys) = (key_cmp key k ≡ Less) × Leads key keys

-- each pair stands before those behind it
abbrev pub IsOrdered : List Key → Type 0
IsOrdered [] = Unit {0}
IsOrdered (k ∷ keys) = Leads k keys × IsOrdered keys

-- The list has the pairs of the map, by their scores and then by their members. A map has exactly one such list.
pub record IsRanking (map : ScoreMap) (list : List Key) : Type 0 where
  pub ordered : IsOrdered list
  pub pairs : (key : Key) → Contains list key ↔ (get map key.1 ≡ Some key.0)

-- the map without the members of these pairs
abbrev pub without_each : ScoreMap → List Key → ScoreMap
without_each map [] = map
without_each map (key ∷ keys) = without_each (remove map key.1) keys
