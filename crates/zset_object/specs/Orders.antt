-- Lists of scores with their members, and which form a sorted set has. (Redis command reference, data type Sorted sets:
-- by rising score, and the members of one score by their bytes.)
use Rattle.std.specs.Prelude.{◌≡◌, ℕ, ℤ, Bool, List, [], ◌∷◌, map, length, count_by, max, Some, slice_get}
use Rattle.std.specs.Ordering.{is_lt}
use Rattle.std.specs.FinMap.{entries, from_entries, get, len}
use Rattle.object_codec.specs.declared.limits.Limits.{Limits}
use Rattle.object_codec.specs.declared.form.Form.{Form}
use Rattle.object_codec.specs.Forms.{FitsZset, IsLeastFrom}
use Rattle.score_list.specs.Sorted.{Key, key_cmp}
use Rattle.score_table.specs.Ranking.{ScoreMap}

-- the member of a key beside its score
abbrev pub entry_of : Key → List ℕ × ℤ
entry_of key = (key.1, key.0)

-- the map of a list of scores with their members
abbrev pub map_of_keys : List Key → ScoreMap
map_of_keys keys = from_entries (map entry_of keys)

-- it stands before the key
abbrev pub is_before : Key → Key → Bool
is_before key x = is_lt (key_cmp x key)

-- how many stand before the key
abbrev pub place_in : Key → List Key → ℕ
place_in key keys = count_by (is_before key) keys

-- The member has the rank in the list, and there its score in the map.
pub record HasRank (map : ScoreMap) (list : List Key) (member : List ℕ) (rank : ℕ) : Type 0 where
  pub score : ℤ
  pub has : get map member ≡ Some score
  pub there : slice_get list rank ≡ Some (score, member)

-- the length of the longest member
abbrev pub longest_member : List (List ℕ × ℤ) → ℕ
longest_member [] = 0
longest_member (e ∷ rest) = max (length e.0) (longest_member rest)

-- the forms that a sorted set of these members and scores fits
abbrev pub FitsScored : Limits → ScoreMap → Form → Type 0
FitsScored limits map = FitsZset limits (len map) (longest_member (entries map))

-- The form of a sorted set of these members after one was written: the least one that fits and isn't below the old one.
abbrev pub IsRisen : Limits → Form → ScoreMap → Form → Type 0
IsRisen limits old map new = IsLeastFrom old (FitsScored limits map) new
