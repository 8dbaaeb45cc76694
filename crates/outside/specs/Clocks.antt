-- What is told of clocks.
use Rattle.std.specs.Prelude.{◌≡◌, ℕ, List, [], ◌∷◌, Option, Some, None, ⊤}

-- the answers that are left, and the one that is given after them
pub record Answers : Type 0 where
  pub left : List ℕ
  pub after : ℕ

-- the next of them
abbrev pub next_of : List ℕ → ℕ → ℕ
next_of [] after = after
next_of (answer ∷ left) after = answer

-- those behind it
abbrev pub rest_of : List ℕ → List ℕ
rest_of [] = []
rest_of (answer ∷ left) = left

-- a clock that tells its answers gives the next one
abbrev pub Tells : Option Answers → ℕ → Option Answers → Type 0
Tells None now new = ⊤
Tells (Some answers) now new = (now ≡ next_of answers.left answers.after)
    × (new ≡ Some (record { left = rest_of answers.left; after = answers.after }))

-- the last of a clock's answers, or this where there is none
abbrev pub last_or : ℕ → List ℕ → ℕ
last_or last [] = last
last_or last (answer ∷ left) = last_or answer left
