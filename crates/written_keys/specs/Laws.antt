-- Statements of the laws.
use Rattle.std.specs.Prelude.{◌≡◌, ℕ, List}
use Rattle.plain_world.specs.Worlds.{World, look_in}
use Rattle.plain_world.specs.declared.reply.Part.{Part}
use Rattle.plain_model.specs.Steps.{may}
use Rattle.plain_model.specs.declared.command.Command.{Command}
use Rattle.written_keys.specs.Written.{IsWritten}

-- where a command doesn't write, there stands what stood there
abbrev pub OthersStay : Type 0
OthersStay =
    (seed : ℕ) (old : World) (moment : ℕ) (command : Command) (reply : List Part) (new : World)
    → may seed old moment command reply new → (db : ℕ) (key : List ℕ)
    → (IsWritten old.selected command db key → ⊥) → look_in new db key ≡ look_in old db key
