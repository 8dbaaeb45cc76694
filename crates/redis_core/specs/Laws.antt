-- Statements of the laws.
use Rattle.std.specs.Prelude.{◌≡◌, ℕ, List}
use Rattle.plain_world.specs.Words.{Words}
use Rattle.plain_world.specs.Worlds.{World, live}
use Rattle.plain_model.specs.Steps.{step}
use Rattle.plain_model.specs.Outcomes.{IsRefusal}
use Rattle.plain_world.specs.declared.reply.Part.{Part}

-- where a request may be answered by an error, it leaves the world as it was, live at the moment
abbrev pub RefusalsChangeNothing : Type 0
RefusalsChangeNothing =
    (seed : ℕ) (old : World) (moment : ℕ) (words : Words) (reply : List Part) (new : World)
    → step seed old moment words reply new → IsRefusal reply → new ≡ live old moment
