-- What the calls of a keyspace hand out.
use Rattle.std.specs.Prelude.{ℕ, List}
use Rattle.blocks.specs.Blocks.{Blocks}
use Rattle.held.specs.declared.keyspace.Lifted as held_lifted
use Rattle.held.specs.Calls as held
use Rattle.keyspace.specs.declared.value.Value.{Value}
use Rattle.keyspace.specs.Values.{value_of, value_refs, vacant}
use Rattle.keyspace.specs.Databases.{Bases}
pub use Rattle.held.specs.Calls.{IsPlace, AreParts}

abbrev pub Lifted : Type 0
Lifted = held_lifted.Lifted Value

-- The value is what stands at the key of the database at the moment, and its blocks are live.
abbrev pub Found : Bases → Blocks → ℕ → List ℕ → ℕ → Value → Type 0
Found bases blocks db key moment value = held.Found value_refs value_of bases blocks db key moment value

-- in the place stands the string of the number 0, which owns no block
abbrev pub IsVacant : Bases → ℕ → ℕ → Type 0
IsVacant bases db at = held.IsVacant vacant bases db at

-- The value was taken out of the place of the key, at which the world had it.
abbrev pub Lifts : Bases → Bases → Blocks → ℕ → List ℕ → ℕ → Lifted → Type 0
Lifts old new blocks db key moment lifted = held.Lifts value_refs value_of vacant old new blocks db key moment lifted
