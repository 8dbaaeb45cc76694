-- Item numbers that were picked.
use Rattle.std.specs.Prelude.{ℕ, suc, ℤ, pos, negsuc, ◌<◌, ◌≤◌, List, [], ◌∷◌, length, Option, None, Some}
use Rattle.std.specs.List.{Contains}
use Rattle.blocks.specs.Blocks.{Blocks}

-- no number stands twice in the list
abbrev pub AreApart : List ℕ → Type 0
AreApart [] = Unit {0}
AreApart (x ∷ xs) = (Contains xs x → ⊥) × AreApart xs

module _ (sound : Blocks → Type 0) (has : Blocks → ℕ → Type 0) where
  -- an element has this item number
  abbrev pub IsThere : ℕ → Type 0
  IsThere at = (m : Blocks) → sound m → has m at

  -- no element has an item number
  abbrev pub NoneIsThere : Type 0
  NoneIsThere = (m : Blocks) → sound m → (at : ℕ) → has m at → ⊥

  -- Each is the item number of an element, none stands twice, and they are at most so many: where they are fewer, they are all
  -- that there are.
  pub record ArePicks (n : ℕ) (picked : List ℕ) : Type 0 where
    pub apart : AreApart picked
    pub real : (at : ℕ) → Contains picked at → IsThere at
    pub few : length picked ≤ n
    pub whole : length picked < n → (m : Blocks) → sound m → (at : ℕ) → has m at → Contains picked at

  -- Each is the item number of an element, and they are so many, unless there is no element.
  pub record AreDraws (n : ℕ) (drawn : List ℕ) : Type 0 where
    pub real : (at : ℕ) → Contains drawn at → IsThere at
    pub few : length drawn ≤ n
    pub whole : length drawn < n → NoneIsThere

  -- one, at most so many different ones, or for a number below 0 as many, which may repeat
  abbrev pub IsPick : Option ℤ → List ℕ → Type 0
  IsPick None picked = ArePicks 1 picked
  IsPick (Some (pos n)) picked = ArePicks n picked
  IsPick (Some (negsuc n)) picked = AreDraws (suc n) picked
