-- What the taking of pieces does.
use Rattle.std.specs.Prelude.{◌≡◌, ℕ, ◌<◌, ◌≤◌, List, [], ◌++◌, length}
use Rattle.std.specs.Io.KnownBytes.{IsAtEnd}
use Rattle.outside.specs.Streams.{SourceSeen, TakesAll, TakesNone}
use Rattle.resp_frames.specs.Feeding.{Feeding}
use Rattle.serving.specs.declared.pieces.Taken.{Taken}
use Rattle.serving.specs.declared.pieces.Taken.TheVariants as taken

-- a feeder that was fed nothing
pub record IsFresh (feeder : Feeding) : Type 0 where
  pub gone : feeder.gone ≡ 0
  pub kept : feeder.kept ≡ []

-- a piece of at most so many bytes was taken
pub record TakesPiece (old new : SourceSeen) (most : ℕ) : Type 0 where
  pub piece : List ℕ
  pub took : TakesAll old new piece
  pub few : length piece ≤ most

-- a piece was taken and fed
pub record Feeds (old new : SourceSeen) (most count : ℕ) (fed fed' : Feeding) : Type 0 where
  pub piece : List ℕ
  pub took : TakesAll old new piece
  pub long : length piece ≡ count
  pub some : 0 < count
  pub few : count ≤ most
  pub gone : fed'.gone ≡ fed.gone
  pub kept : fed'.kept ≡ fed.kept ++ piece

-- what `take_piece` answers
abbrev pub Takes : SourceSeen → SourceSeen → ℕ → Feeding → Feeding → Taken → Type 0
Takes old new most fed fed' taken.End = TakesAll old new [] × IsAtEnd new.told × (fed' ≡ fed)
Takes old new most fed fed' taken.Fault = TakesNone old new
Takes old new most fed fed' taken.Memory = TakesPiece old new most
Takes old new most fed fed' (taken.Piece count) = Feeds old new most count fed fed'
