-- The items of a packed form, and where they can stand.
use Rattle.std.specs.Prelude.{◌≡◌, ℕ, zero, suc, ◌<◌, ◌≤◌, ◌^◌, List, [], ◌∷◌, ◌++◌, Option, Some, None}

-- the numbers below a number
abbrev pub upto : ℕ → List ℕ
upto zero = []
upto (suc n) = upto n ++ n ∷ []

-- so many items, and no others, have places, whichever these are
pub record HavePlaces (count : ℕ) (place_of : ℕ → Option ℕ) : Type 0 where
  pub real : (i at : ℕ) → place_of i ≡ Some at → (i < count) × (at < 2 ^ 64)
  pub all : (i : ℕ) → place_of i ≡ None → count ≤ i
