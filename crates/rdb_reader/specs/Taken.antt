-- How far a file is taken.
use Rattle.std.specs.Prelude.{◌≡◌, ◌≤◌, ◌+◌, ℕ, List, Bool, true, false, Option, length}
use Rattle.std.specs.Io.KnownBytes.{Consumes}
use Rattle.outside.specs.Files.{Files, HostSeen, HasLeft}

-- at most so many bytes were taken of those that were left
pub record TakesUpTo (left left' : Option (List ℕ)) (most : ℕ) : Type 0 where
  pub taken : List ℕ
  pub took : Consumes left left' taken
  pub few : length taken ≤ most

-- of a file so many bytes are taken: one more than the limit, and where the host failed no more than that
abbrev pub most_of : ℕ → Bool → ℕ
most_of limit false = limit + 1
most_of limit true = limit

-- How far the host's file of a name is taken, where the host failed or not: it wasn't begun, which failed; or it was, and
-- at most so many bytes were taken of those that it had.
pub data TakesFile (files : Files) (name : List ℕ) (limit : ℕ) (after : HostSeen) (failed : Bool) : Type 0 where
  not_begun : after.begun ≡ false → failed ≡ true → TakesFile files name limit after failed
  begun : (left : Option (List ℕ)) → after.begun ≡ true → HasLeft files name left
      → TakesUpTo left after.reading.told (most_of limit failed) → TakesFile files name limit after failed
