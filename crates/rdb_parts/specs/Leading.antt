-- What bytes that stand behind the items of a file make of it.
use Rattle.std.specs.Prelude.{ℕ, List, ◌++◌, length, None}
use Rattle.plain_world.specs.Worlds.{World}
use Rattle.rdb_grammar.specs.Files.{State, Reached}

-- all these bytes are a header and whole items, which lead to a state at the moment
abbrev pub Begins : List ℕ → ℕ → State → Type 0
Begins bytes moment state = Reached bytes moment (length bytes) state

-- behind whole items that lead to a state, these bytes are whole items more, which lead to another
abbrev pub Leads : ℕ → State → State → List ℕ → Type 0
Leads moment old new word = (bytes : List ℕ) → Begins bytes moment old → Begins (bytes ++ word) moment new

-- the state between two keys
abbrev pub between : World → State
between world = record { world = world; deadline = None }
