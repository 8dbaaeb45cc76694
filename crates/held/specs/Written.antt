-- What a call wrote.
use Rattle.std.specs.Prelude.{◌≡◌, ◌⊎◌, ◌<◌, ℕ, List, Some}
use Rattle.blocks.specs.declared.BlockRef.{BlockRef}
use Rattle.blocks.specs.Blocks.{Blocks, times}
use Rattle.held.specs.Table.{Element, item}
use Rattle.held.specs.Databases.{Bases, table_at}
use Rattle.held.specs.Calls.{HasValue}
use Rattle.held.specs.Scopes.{Stayed}

-- these blocks keep their bytes
abbrev pub KeepBytes : Blocks → Blocks → List BlockRef → Type 0
KeepBytes m after refs = (r : BlockRef) → 0 < times r refs → after r ≡ m r

module _ {V : Type 0} where
  -- the value stood at the key, and its blocks keep their bytes
  pub record Carried (refs_of : Blocks → V → List BlockRef) (old : Bases V) (m after : Blocks) (db : ℕ) (key : List ℕ) (value : V)
      : Type 0 where
    pub had : HasValue old m db key value
    pub kept : KeepBytes m after (refs_of m value)

  -- each element stood there before, with its key and its value as they were, or has such a value
  abbrev pub Written : (Blocks → V → List BlockRef) → (V → Type 0) → Bases V → Bases V → Blocks → Blocks → Type 0
  Written refs_of Is old new m after = (db at : ℕ) (element : Element V) → item (table_at new db) at ≡ Some element
      → Stayed refs_of old m after db at element ⊎ Is element.value
