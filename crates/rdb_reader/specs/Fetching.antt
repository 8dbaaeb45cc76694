-- The bytes of a host's file.
use Rattle.std.specs.Prelude.{◌≡◌, ◌<◌, ◌≤◌, ℕ, List, [], ◌++◌, Bool, true, false, Option, Some, None, Result, Ok, Err, ⊤, length}
use Rattle.std.specs.Io.KnownBytes.{IsAtEnd}
use Rattle.std.specs.Global.{Vec}
use Rattle.outside.specs.Counts.{Rose}
use Rattle.outside.specs.Streams.{SourceSeen, TakesAll, TakesNone}
use Rattle.outside.specs.Files.{Files}
use Rattle.rdb_reader.specs.Named.{IsFileOf, IsLongFile}
use Rattle.rdb_reader.specs.declared.fault.LoadFault.{LoadFault}
use Rattle.rdb_reader.specs.declared.fault.LoadFault.TheVariants as faults
use Rattle.rdb_reader.specs.declared.fetch.Taken.{Taken}
use Rattle.rdb_reader.specs.declared.fetch.Taken.TheVariants as taken

-- a piece was taken and kept
pub record TakesPiece (old new : SourceSeen) (most : ℕ) (bytes bytes' : List ℕ) : Type 0 where
  pub piece : List ℕ
  pub took : TakesAll old new piece
  pub some : 0 < length piece
  pub few : length piece ≤ most
  pub kept : bytes' ≡ bytes ++ piece

-- a piece was taken, and isn't kept
pub record TakesLost (old new : SourceSeen) (most : ℕ) : Type 0 where
  pub piece : List ℕ
  pub took : TakesAll old new piece
  pub few : length piece ≤ most

-- what `take_piece` answers
abbrev pub Takes : SourceSeen → SourceSeen → ℕ → List ℕ → List ℕ → Taken → Type 0
Takes old new most bytes bytes' taken.Piece = TakesPiece old new most bytes bytes'
Takes old new most bytes bytes' taken.End = TakesAll old new [] × IsAtEnd new.told × (bytes' ≡ bytes)
Takes old new most bytes bytes' taken.Fault = TakesNone old new
Takes old new most bytes bytes' taken.Memory = TakesLost old new most

-- these are all the bytes that were left, where they are told
abbrev pub IsAll : Option (List ℕ) → List ℕ → Type 0
IsAll None bytes = ⊤
IsAll (Some all) bytes = all ≡ bytes

-- more bytes were left than so many
pub record IsLong (left : Option (List ℕ)) (limit : ℕ) : Type 0 where
  pub all : List ℕ
  pub whole : IsAll left all
  pub long : limit < length all

-- whether the host failed
abbrev pub has_failed : {A : Type 0} → Result A LoadFault → Bool
has_failed (Ok x) = false
has_failed (Err (faults.Refused what at)) = false
has_failed (Err faults.Host) = true
has_failed (Err faults.Limit) = false
has_failed (Err faults.Memory) = false

-- The count of faults rose exactly where the host failed, as none does that is sure.
abbrev pub Counts : {A : Type 0} → ℕ → ℕ → Type 0 → Result A LoadFault → Type 0
Counts before after Sure (Ok x) = after ≡ before
Counts before after Sure (Err (faults.Refused what at)) = after ≡ before
Counts before after Sure (Err faults.Host) = Rose before after × (Sure → ⊥)
Counts before after Sure (Err faults.Limit) = after ≡ before
Counts before after Sure (Err faults.Memory) = after ≡ before

-- what `take_all` answers
abbrev pub Fetches : Option (List ℕ) → ℕ → List ℕ → Result (Unit {0}) LoadFault → Type 0
Fetches left limit bytes (Ok x) = IsAll left bytes × (length bytes ≤ limit)
Fetches left limit bytes (Err (faults.Refused what at)) = ⊥
Fetches left limit bytes (Err faults.Host) = Unit {0}
Fetches left limit bytes (Err faults.Limit) = IsLong left limit
Fetches left limit bytes (Err faults.Memory) = Unit {0}

-- what `fetch` answers
abbrev pub FetchesFile : Files → List ℕ → ℕ → Result (Vec ℕ) LoadFault → Type 0
FetchesFile files name limit (Ok v) = IsFileOf files name v.items × (length v.items ≤ limit)
FetchesFile files name limit (Err (faults.Refused what at)) = ⊥
FetchesFile files name limit (Err faults.Host) = Unit {0}
FetchesFile files name limit (Err faults.Limit) = IsLongFile files name limit
FetchesFile files name limit (Err faults.Memory) = Unit {0}
