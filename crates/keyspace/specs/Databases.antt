-- What contracts see of the databases, the blocks that they own, and the world that they mean.
use Rattle.std.specs.Prelude.{ℕ}
use Rattle.blocks.specs.Blocks.{Blocks}
use Rattle.plain_world.specs.Worlds.{World}
use Rattle.held.specs.declared.keyspace.Keyspace as held_keyspace
use Rattle.held.specs.Databases as held
use Rattle.keyspace.specs.declared.value.Value.{Value}
use Rattle.keyspace.specs.Values.{value_of}
pub use Rattle.held.specs.Databases.{table_at, SameSettings}

-- the databases by their numbers, each with its keys and their deadlines, and what every value is made with
abbrev pub Bases : Type 0
Bases = held.Bases Value

-- the databases and their store
abbrev pub Keyspace : Type 0 → Type 0
Keyspace S = held_keyspace.Keyspace Value S

-- The world that the databases mean: each key and value is read out of the blocks. The selected database is given.
abbrev pub means : ℕ → Bases → Blocks → World
means selected bases blocks = held.means value_of selected bases blocks
