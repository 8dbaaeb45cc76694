-- What is put into a shelf.
use Rattle.std.specs.Prelude.{◌≡◌, ℕ, List, ◌++◌, Option, Some, Result, Ok, Err}
use Rattle.std.specs.Io.KnownBytes.{Appends}
use Rattle.outside.specs.Counts.{Rose}
use Rattle.outside.specs.Files.{ShelfSeen, Has, KeepsOthers}

-- The bytes are put behind those of the name that is made, with no fault. No other name's bytes change.
pub record PutsAll (old new : ShelfSeen) (bytes : List ℕ) : Type 0 where
  pub written : Appends old.written new.written bytes
  pub begun : new.begun ≡ old.begun
  pub made : new.made ≡ old.made
  pub grown : (name before : List ℕ) → old.made ≡ Some name → Has old.files name before
      → Has new.files name (before ++ bytes)
  pub others : (name : List ℕ) → old.made ≡ Some name → KeepsOthers old.files new.files name
  pub faults : new.faults ≡ old.faults

-- The shelf failed once, and no other name's bytes changed.
pub record Loses (old new : ShelfSeen) : Type 0 where
  pub rose : Rose old.faults new.faults
  pub others : (name : List ℕ) → old.made ≡ Some name → KeepsOthers old.files new.files name

-- all of the bytes were put, or the shelf failed
abbrev pub Puts : {T E : Type 0} → ShelfSeen → ShelfSeen → List ℕ → Result T E → Type 0
Puts old new bytes (Ok x) = PutsAll old new bytes
Puts old new bytes (Err e) = Loses old new
