-- What a pattern matches. (Redis command reference, KEYS.)
use Rattle.std.specs.Prelude.{◌≡◌, ◌≢◌, ℕ, true, List, [], ◌∷◌, ◌++◌}
use Rattle.glob.specs.Class.{class_takes, behind_class}

-- the bytes of a pattern that match themselves: all but `*`, `?`, `[` and `\`
pub record IsPlain (byte : ℕ) : Type 0 where
  pub no_star : byte ≢ 42
  pub no_question : byte ≢ 63
  pub no_bracket : byte ≢ 91
  pub no_backslash : byte ≢ 92

-- A pattern matches a whole text. A rule for each first byte of the pattern:
-- `*` takes any bytes, `?` one byte, `\` makes the next byte match itself, and is itself at the end, `[` begins a
-- class.
pub data Matches : List ℕ → List ℕ → Type 0 where
  empty : Matches [] []
  star : (pattern taken left : List ℕ) → Matches pattern left → Matches (42 ∷ pattern) (taken ++ left)
  question : (pattern left : List ℕ) (byte : ℕ) → Matches pattern left → Matches (63 ∷ pattern) (byte ∷ left)
  escaped : (pattern left : List ℕ) (byte : ℕ) → Matches pattern left → Matches (92 ∷ byte ∷ pattern) (byte ∷ left)
  last_backslash : Matches (92 ∷ []) (92 ∷ [])
  class : (body left : List ℕ) (byte : ℕ) → class_takes body byte ≡ true → Matches (behind_class body) left
      → Matches (91 ∷ body) (byte ∷ left)
  plain : (pattern left : List ℕ) (byte : ℕ) → IsPlain byte → Matches pattern left
      → Matches (byte ∷ pattern) (byte ∷ left)
