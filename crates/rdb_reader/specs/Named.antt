-- What is said of the host's file of a name.
use Rattle.std.specs.Prelude.{◌≡◌, ◌<◌, ◌≤◌, ℕ, List, Some, None, ⊤, length}
use Rattle.outside.specs.Files.{Files}
use Rattle.rdb_grammar.specs.Files.{IsFault}
use Rattle.rdb_grammar.specs.declared.fault.LoadKind.{LoadKind}

-- these are the bytes of the host's file of this name, where they are told
abbrev pub IsFileOf : Files → List ℕ → List ℕ → Type 0
IsFileOf None name bytes = ⊤
IsFileOf (Some files) name bytes = files name ≡ Some bytes

-- the file has more bytes than so many
pub record IsLongFile (files : Files) (name : List ℕ) (limit : ℕ) : Type 0 where
  pub bytes : List ℕ
  pub is : IsFileOf files name bytes
  pub long : limit < length bytes

-- the file has at most so many bytes, and this first fault at the moment
pub record RefusesFile (files : Files) (name : List ℕ) (limit moment : ℕ) (what : LoadKind) (at : ℕ) : Type 0 where
  pub bytes : List ℕ
  pub is : IsFileOf files name bytes
  pub few : length bytes ≤ limit
  pub fault : IsFault bytes moment what at
