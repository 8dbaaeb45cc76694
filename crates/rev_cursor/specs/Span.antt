-- What the moves of a scan find. Items are told by their numbers, and each item has a place.
use Rattle.std.specs.Prelude.{◌≡◌, ◌<◌, ◌≤◌, ◌+◌, ◌==◌, ℕ, List, [], ◌∷◌, Option, Some, None, if◌then◌else◌}
use Rattle.rev_cursor.specs.Place.{place, end_of}

-- how often a number stands in a list
abbrev pub times : ℕ → List ℕ → ℕ
times i [] = 0
times i (x ∷ xs) = (if x == i then 1 else 0) + times i xs

-- What was found from a cursor to the next one, over items with these places: each at most once, all
-- of the interval, none at or behind its end, and no number that isn't an item's.
pub record Span (place_of : ℕ → Option ℕ) (cursor next : ℕ) (found : List ℕ) : Type 0 where
  pub on : place cursor < end_of next
  pub once : (i : ℕ) → times i found ≤ 1
  pub whole : (i at : ℕ) → place_of i ≡ Some at → place cursor ≤ at → at < end_of next → times i found ≡ 1
  pub low : (i at : ℕ) → place_of i ≡ Some at → end_of next ≤ at → times i found ≡ 0
  pub real : (i : ℕ) → place_of i ≡ None → times i found ≡ 0

-- nothing found stands before this cursor
abbrev pub StartsAt : (ℕ → Option ℕ) → ℕ → List ℕ → Type 0
StartsAt place_of cursor found = (i at : ℕ) → place_of i ≡ Some at → at < place cursor → times i found ≡ 0
