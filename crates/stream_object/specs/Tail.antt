-- The last node of a stream, kept where it is known.
use Rattle.std.specs.Prelude.{◌≡◌, ℕ, List, [], ◌∷◌, ◌++◌, Option, Some, None}
use Rattle.stream_object.specs.declared.tail.Tail.{Tail}
use Rattle.stream_object.specs.Parts.{Part, part}

-- The node is the last of these.
pub record IsEnd (ps : List Part) (p : Part) : Type 0 where
  pub before : List Part
  pub place : ps ≡ before ++ p ∷ []

-- the last of these nodes has this key, and stands in this block
abbrev pub IsTail : List Part → Tail → Type 0
IsTail ps tail = (bytes : List ℕ) × IsEnd ps (part tail.key tail.at bytes)

-- where one is kept, it is the last of these nodes
abbrev pub IsKept : List Part → Option Tail → Type 0
IsKept ps None = Unit {0}
IsKept ps (Some tail) = IsTail ps tail
