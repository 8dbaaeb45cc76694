-- What a request may be answered, and what it leaves.
use Rattle.std.specs.Prelude.{◌≡◌, ℕ, List, [], ◌∷◌, Result, MatchResult}
use Rattle.plain_world.specs.Words.{Words}
use Rattle.plain_world.specs.Worlds.{World, live}
use Rattle.plain_model.specs.Meant.{meant}
use Rattle.plain_model.specs.Outcomes.{IsRefusal}
use Rattle.plain_model.specs.StringSteps.{may_strings}
use Rattle.plain_model.specs.ListSteps.{may_lists}
use Rattle.plain_model.specs.SetSteps.{may_sets}
use Rattle.plain_model.specs.HashSteps.{may_hashes}
use Rattle.plain_model.specs.ZsetSteps.{may_zsets}
use Rattle.plain_model.specs.GroupSteps.{may_streams}
use Rattle.plain_model.specs.KeySteps.{may_keys}
use Rattle.plain_model.specs.ConnectionSteps.{may_connection}
use Rattle.plain_model.specs.declared.command.Command.{Command}
use Rattle.plain_model.specs.declared.command.Command.TheVariants.{Strings, Lists, Sets, Hashes, Zsets, Streams, Keys, Connection}
use Rattle.plain_world.specs.declared.refusal.Refusal.{Refusal}
use Rattle.plain_world.specs.declared.reply.Part.{Part}
use Rattle.plain_world.specs.declared.reply.Part.TheVariants.{Refused}

-- under this seed of the hash, and from a live world, the command at this moment may be answered by this reply, and
-- leave the new world
abbrev pub may : ℕ → World → ℕ → Command → List Part → World → Type 0
may seed old moment (Strings command) reply new = may_strings old moment command reply new
may seed old moment (Lists command) reply new = may_lists old command reply new
may seed old moment (Sets command) reply new = may_sets seed old command reply new
may seed old moment (Hashes command) reply new = may_hashes seed old command reply new
may seed old moment (Zsets command) reply new = may_zsets seed old command reply new
may seed old moment (Streams command) reply new = may_streams old moment command reply new
may seed old moment (Keys command) reply new = may_keys seed old moment command reply new
may seed old moment (Connection command) reply new = may_connection old moment command reply new

-- the same of what words mean, a command or a refusal: a reply that is an error leaves the world
abbrev pub may_meant : ℕ → World → ℕ → Result Command Refusal → List Part → World → Type 0
may_meant seed old moment asked reply new =
    MatchResult asked (λ command. may seed old moment command reply new) (λ refusal. reply ≡ Refused refusal ∷ [])
    × (IsRefusal reply → new ≡ old)

-- the same of a request and any world: what is gone at the moment is not seen
abbrev pub step : ℕ → World → ℕ → Words → List Part → World → Type 0
step seed old moment words reply new = may_meant seed (live old moment) moment (meant words) reply new
