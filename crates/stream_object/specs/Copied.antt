-- Nodes once more, each in a block of its own.
use Rattle.std.specs.Prelude.{◌≡◌, List, [], ◌∷◌}
use Rattle.stream_object.specs.Parts.{Part}

-- the same keys and bytes, wherever they stand
abbrev pub AreSame : List Part → List Part → Type 0
AreSame [] [] = Unit {0}
AreSame [] (q ∷ qs) = ⊥
AreSame (p ∷ ps) [] = ⊥
AreSame (p ∷ ps) (q ∷ qs) = (q.key ≡ p.key) × (q.bytes ≡ p.bytes) × AreSame ps qs
