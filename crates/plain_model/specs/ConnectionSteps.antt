-- What commands on the connection and the server answer, and what they leave (Redis command reference, "Connection
-- management", "Server management").
use Rattle.std.specs.Prelude.{◌≡◌, ◌≤◌, ◌<◌, ℕ, List, [], ◌∷◌, length, pos, Option, None, Some, codes, AllPairs}
use Rattle.std.specs.List.{flat_map}
use Rattle.std.specs.FinMap.{len}
use Rattle.plain_world.specs.Worlds.{World, no_keys, with_base, selecting}
use Rattle.plain_model.specs.Outcomes.{Outcome, tells, leaves, IsOutcome}
use Rattle.plain_model.specs.declared.connection.ConnectionCommand.{ConnectionCommand}
use Rattle.plain_model.specs.declared.connection.ConnectionCommand.TheVariants as connection
use Rattle.plain_world.specs.declared.reply.Part.{Part}
use Rattle.plain_world.specs.declared.reply.Part.TheVariants.{Simple, Number, Bulk, Array}

-- PONG, or the text
abbrev pub pong : Option (List ℕ) → Part
pong None = Simple (codes "PONG")
pong (Some text) = Bulk text

-- the slabs of one class of lengths: its size in bytes, how many slabs it has, and how many blocks stand in them
pub record ClassSlabs : Type 0 where
  pub size : ℕ
  pub slabs : ℕ
  pub used : ℕ

abbrev pub class_parts : ClassSlabs → List Part
class_parts class = Array 3 ∷ Number (pos class.size) ∷ Number (pos class.slabs) ∷ Number (pos class.used) ∷ []

-- the reply that lists them, three numbers a class
abbrev pub slab_table : List ClassSlabs → List Part
slab_table classes = Array (length classes) ∷ flat_map class_parts classes

-- a list of classes by rising sizes; which ones, and what stands in them, is the store's matter
pub record IsSlabTable (reply : List Part) : Type 0 where
  pub classes : List ClassSlabs
  pub rising : AllPairs (λ (a b : ClassSlabs). a.size < b.size) classes
  pub is : reply ≡ slab_table classes

-- What a command answers and leaves, in the world that is live at the moment. Of MEMORY SLABS and DEBUG only the world
-- is fixed.
abbrev pub connection_outcome : ℕ → World → ConnectionCommand → Outcome
connection_outcome moment old (connection.Ping text) = tells (pong text ∷ []) old
connection_outcome moment old (connection.Echo text) = tells (Bulk text ∷ []) old
connection_outcome moment old connection.Quit = tells (Simple (codes "OK") ∷ []) old
connection_outcome moment old (connection.Select number) = leaves (Simple (codes "OK") ∷ []) (selecting old number)
connection_outcome moment old connection.DbSize = tells (Number (pos (len (old.bases old.selected))) ∷ []) old
connection_outcome moment old connection.FlushDb = leaves (Simple (codes "OK") ∷ []) (with_base old no_keys)
connection_outcome moment old connection.FlushAll =
    leaves (Simple (codes "OK") ∷ []) (record { bases = λ number. no_keys; selected = old.selected })
connection_outcome moment old connection.MemorySlabs = tells [] old
connection_outcome moment old (connection.DebugRehash n) = tells [] old
connection_outcome moment old (connection.DebugDefrag n) = tells [] old

-- how many steps found a table: at most so many
abbrev pub IsStepCount : ℕ → List Part → Type 0
IsStepCount n reply = (count : ℕ) × (count ≤ n) × (reply ≡ Number (pos count) ∷ [])

-- whether a pass ended: none does without a step
abbrev pub IsPassEnd : ℕ → List Part → Type 0
IsPassEnd n reply = (ended : ℕ) × (ended ≤ n) × (ended ≤ 1) × (reply ≡ Number (pos ended) ∷ [])

-- from the world that is live at the moment the command may be answered by this reply, and leave the new world
abbrev pub may_connection : World → ℕ → ConnectionCommand → List Part → World → Type 0
may_connection old moment connection.MemorySlabs reply new = IsSlabTable reply × (new ≡ old)
may_connection old moment (connection.DebugRehash n) reply new = IsStepCount n reply × (new ≡ old)
may_connection old moment (connection.DebugDefrag n) reply new = IsPassEnd n reply × (new ≡ old)
may_connection old moment command reply new = IsOutcome (connection_outcome moment old command) reply new
