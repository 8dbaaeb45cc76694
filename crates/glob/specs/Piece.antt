-- What the first piece of a pattern says of a byte.
use Rattle.std.specs.Prelude.{◌≡◌, ℕ, ◌<◌, ◌≤◌, List, ◌∷◌, length, drop}
use Rattle.glob.specs.Pattern.{Matches}
use Rattle.glob.specs.declared.piece.Piece.{Piece}
use Rattle.glob.specs.declared.piece.Piece.TheVariants.{Star, Takes, Refuses}

-- the piece is of this many bytes, matches one byte, whatever it is, and may match this one
pub record TakesByte (pattern : List ℕ) (byte width : ℕ) : Type 0 where
  pub some : 0 < width
  pub room : width ≤ length pattern
  pub one_byte : (text : List ℕ) → Matches pattern text → (0 < length text) × Matches (drop width pattern) (drop 1 text)
  pub taken : (left : List ℕ) → Matches (drop width pattern) left → Matches pattern (byte ∷ left)

abbrev pub IsPiece : List ℕ → ℕ → Piece → Type 0
IsPiece pattern byte Star = pattern ≡ 42 ∷ drop 1 pattern
IsPiece pattern byte (Takes width) = TakesByte pattern byte width
IsPiece pattern byte Refuses = (left : List ℕ) → ¬ (Matches pattern (byte ∷ left))
