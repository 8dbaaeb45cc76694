-- Runs of digits.
use Rattle.std.specs.Prelude.{◌≤◌, ℕ, List, [], ◌∷◌, ⊤}
use Rattle.std.specs.Char.{digit_value}

-- a text does not begin with a digit
abbrev pub StopsDigits : List ℕ → Type 0
StopsDigits [] = ⊤
StopsDigits (c ∷ _) = 10 ≤ digit_value c
