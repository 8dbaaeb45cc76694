-- What is told of files, which are read from a host and written to a shelf, and what the calls on them do.
use Rattle.std.specs.Prelude.{◌≡◌, ℕ, ◌++◌, Bool, true, false, List, [], Option, Some, None, IsSome, Result, IfOk, OnOk, OnErr, ⊤, is_ok, bytes_eq, length, take, if◌then◌else◌}
use Rattle.std.specs.List.{zip, slice_get}
use Rattle.std.specs.Map.{lookup}
use Rattle.std.specs.Global.{Vec}
use Rattle.std.specs.Io.KnownBytes.{WriteAppends}
use Rattle.outside.specs.Counts.{Tallies}
use Rattle.outside.specs.Streams.{SourceSeen, Takes, Fits, without}

-- the bytes of each name that has a file, where they are told
abbrev pub Files : Type 0
Files = Option (List ℕ → Option (List ℕ))

-- a host: the files, whether one is begun, and that one as a source, of which nothing is left where none is; its faults
-- are those of calls of both kinds, and none follows that is sure but by a name that has no file
pub record HostSeen : Type 0 where
  pub files : Files
  pub begun : Bool
  pub reading : SourceSeen

-- the bytes of the file of a name, where the k-th file is that of the k-th name:
-- the first of equal names has it, and a name without a file is as if it weren't there
abbrev pub file_of : List (List ℕ) → List (List ℕ) → List ℕ → Option (List ℕ)
file_of names files name = lookup (λ n. bytes_eq n name) (zip names files)

-- where the bytes of the names are told, the name has a file, and its bytes are what is left
abbrev pub HasLeft : Files → List ℕ → Option (List ℕ) → Type 0
HasLeft None name left = ⊤
HasLeft (Some files) name left = IsSome (files name) × (left ≡ files name)

-- it is told that the name has a file
abbrev pub IsListed : Files → List ℕ → Type 0
IsListed None name = ⊥
IsListed (Some files) name = IsSome (files name)

-- the file of a name is begun at its first byte, or none is
pub record Begins {E : Type 0} (old new : HostSeen) (name : List ℕ) (result : Result (Unit {0}) E) : Type 0 where
  pub same : new.files ≡ old.files
  pub begun : new.begun ≡ is_ok result
  pub left : OnOk result (HasLeft new.files name new.reading.told)
  pub none : OnErr result (new.reading.told ≡ Some [])
  pub tally : Tallies old.reading.faults new.reading.faults ((old.reading.sure ≡ true) × IsListed old.files name) result
  pub sure : old.reading.sure ≡ true → new.reading.sure ≡ true

-- the next bytes of the file that is begun are taken
pub record TakesOf {E : Type 0} (old new : HostSeen) (result : Result ℕ E) (into : List ℕ) : Type 0 where
  pub same : new.files ≡ old.files
  pub begun : new.begun ≡ old.begun
  pub takes : Takes old.reading new.reading result into

-- the bytes of the file that is begun: none, where none is
abbrev pub begun_bytes : List (Vec ℕ) → Option ℕ → List ℕ
begun_bytes files None = []
begun_bytes files (Some k) = elim (slice_get files k) [ None ↦ [] | Some file ↦ file.items ]

-- where no file is open, it is told that there are no bytes; of an open file what its reader or its writer tells
abbrev pub told_by : {F : Type 0} → (F → Option (List ℕ)) → Option F → Option (List ℕ)
told_by bytes None = Some []
told_by bytes (Some file) = bytes file

-- a shelf: the files, and the name whose bytes are made, where they are told; whether a name is made; the bytes that
-- were put behind those that it began with, where they are told; how many faults there were in calls of both kinds, up
-- to the greatest u64; and how many bytes more a put takes without one, where it surely does
pub record ShelfSeen : Type 0 where
  pub files : Files
  pub made : Option (List ℕ)
  pub begun : Bool
  pub written : Option (List ℕ)
  pub faults : ℕ
  pub room : Option ℕ

-- where it is told, the name has a file of these bytes
abbrev pub Has : Files → List ℕ → List ℕ → Type 0
Has None name bytes = ⊤
Has (Some files) name bytes = files name ≡ Some bytes

-- where it is told, the name is made, and its file has no bytes
abbrev pub IsMade : Files → Option (List ℕ) → List ℕ → Type 0
IsMade None made name = ⊤
IsMade (Some files) made name = (made ≡ Some name) × (files name ≡ Some [])

-- no file changes but that of this name
abbrev pub KeepsOthers : Files → Files → List ℕ → Type 0
KeepsOthers None new name = ⊤
KeepsOthers (Some files) None name = ⊥
KeepsOthers (Some files) (Some new) name = (other : List ℕ) → bytes_eq other name ≡ false → new other ≡ files other

-- the bytes of a name are begun anew
pub record Makes {E : Type 0} (old new : ShelfSeen) (name : List ℕ) (result : Result (Unit {0}) E) : Type 0 where
  pub made : OnOk result (IsMade new.files new.made name)
  pub begun : new.begun ≡ is_ok result
  pub others : KeepsOthers old.files new.files name
  pub tally : Tallies old.faults new.faults ⊥ result

-- a front of a piece is put behind the bytes of the name that is made
pub record PutsOn {E : Type 0} (old new : ShelfSeen) (result : Result ℕ E) (piece : List ℕ) : Type 0 where
  pub begun : OnOk result (old.begun ≡ true)
  pub same : new.begun ≡ old.begun
  pub bytes : WriteAppends old.written new.written result piece
  pub made : new.made ≡ old.made
  pub grown : (name bytes : List ℕ) → old.made ≡ Some name → Has old.files name bytes
      → IfOk result (λ n. Has new.files name (bytes ++ take n piece))
  pub others : (name : List ℕ) → old.made ≡ Some name → KeepsOthers old.files new.files name
  pub none : old.made ≡ None → new.files ≡ old.files
  pub tally : Tallies old.faults new.faults ((old.begun ≡ true) × Fits old.room (length piece)) result
  pub room : IfOk result (λ n. new.room ≡ without old.room n)

-- the bytes of the name that is made are kept as they are
pub record Keeps {E : Type 0} (old new : ShelfSeen) (result : Result (Unit {0}) E) : Type 0 where
  pub begun : OnOk result (old.begun ≡ true)
  pub same : new.begun ≡ old.begun
  pub files : OnOk result (new.files ≡ old.files)
  pub made : new.made ≡ old.made
  pub written : OnOk result (new.written ≡ old.written)
  pub others : (name : List ℕ) → old.made ≡ Some name → KeepsOthers old.files new.files name
  pub none : old.made ≡ None → new.files ≡ old.files
  pub tally : Tallies old.faults new.faults ⊥ result
  pub room : OnOk result (new.room ≡ old.room)

-- a shelf of one name tells that it has these bytes
abbrev pub one_file : List ℕ → List ℕ → Files
one_file name bytes = Some (λ n. if bytes_eq n name then Some bytes else None)

-- the name that is made, where it is the one of a shelf that has no other
abbrev pub made_of : List ℕ → Bool → Option (List ℕ)
made_of name begun = if begun then Some name else None

-- the bytes that were put into a name: none, where none is made
abbrev pub put_bytes : Bool → List ℕ → List ℕ
put_bytes begun bytes = if begun then bytes else []
