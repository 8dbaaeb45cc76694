-- The text of a line (RESP2, "Simple strings").
use Rattle.std.specs.Prelude.{ℕ, ◌≢◌, List}
use Rattle.std.specs.List.{AllByRecursion}

-- neither CR nor LF
abbrev pub IsPlain : ℕ → Type 0
IsPlain b = (b ≢ 13) × (b ≢ 10)

-- the text of a simple string
abbrev pub IsLine : List ℕ → Type 0
IsLine text = AllByRecursion IsPlain text
