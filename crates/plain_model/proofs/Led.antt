-- What a step says of a command, and of a refusal: the reply, and the world that is left.
use Rattle.std.proofs.Common.{◌≡◌, ℕ, List, [], ◌∷◌, Result, Ok, Err, sym, subst}
use Rattle.std.specs.Prelude.{MatchResult}
use Rattle.plain_world.specs.Worlds.{World}
use Rattle.plain_model.specs.Outcomes.{IsRefusal}
use Rattle.plain_model.specs.Steps.{may, may_meant}
use Rattle.plain_model.specs.declared.command.Command.{Command}
use Rattle.plain_world.specs.declared.refusal.Refusal.{Refusal}
use Rattle.plain_world.specs.declared.reply.Part.{Part}
use Rattle.plain_world.specs.declared.reply.Part.TheVariants.{Refused}

-- a command's answer is one that it may have, and a refusal is told and leaves the world
abbrev pub Leads : ℕ → World → ℕ → List Part → World → Result Command Refusal → Type 0
Leads seed old moment reply new asked =
    MatchResult asked (λ command. may seed old moment command reply new) (λ refusal. (reply ≡ Refused refusal ∷ []) × (new ≡ old))

-- that is so of what may be answered to what words mean
pub led : (seed : ℕ) (old : World) (moment : ℕ) (asked : Result Command Refusal) (reply : List Part) (new : World) → may_meant seed old moment asked reply new
    → Leads seed old moment reply new asked
led seed old moment (Ok command) reply new m = m.0
led seed old moment (Err refusal) reply new m = (m.0, m.1 (subst IsRefusal (sym m.0) tt))
