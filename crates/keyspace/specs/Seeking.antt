-- What a command finds that seeks a key.
use Rattle.std.specs.Prelude.{ℕ, List}
use Rattle.blocks.specs.Blocks.{Blocks}
use Rattle.plain_model.specs.declared.ctx.Ctx.{Ctx}
use Rattle.held.specs.declared.seeking.SoughtAt.{SoughtAt}
use Rattle.held.specs.Calls as held
use Rattle.keyspace.specs.Values.{value_of}
use Rattle.keyspace.specs.Databases.{Keyspace}

-- The key was sought: it is there for the command, with this deadline or without one, or it isn't.
abbrev pub Sees : {S : Type 0} → (S → Blocks) → Keyspace S → Ctx → List ℕ → SoughtAt → Type 0
Sees blocks keyspace at key found = held.Sees value_of keyspace.bases (blocks keyspace.store) at.db key at.moment found
