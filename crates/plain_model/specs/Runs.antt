-- What a list of requests may be answered.
use Rattle.std.specs.Prelude.{◌≡◌, ℕ, List, [], ◌∷◌, map, max, min}
use Rattle.plain_world.specs.Words.{Words}
use Rattle.plain_world.specs.Worlds.{World, live, latest}
use Rattle.plain_model.specs.Steps.{step}
use Rattle.plain_world.specs.declared.reply.Part.{Part}

-- a request, and the moment in milliseconds at which it is run
pub record Call : Type 0 where
  pub words : Words
  pub moment : ℕ

-- one command of a run: its request and moment, the live world that it was asked of, and its reply
pub record Turn : Type 0 where
  pub call : Call
  pub seen : World
  pub reply : List Part

abbrev pub calls_of : List Turn → List Call
calls_of turns = map (λ turn. turn.call) turns

abbrev pub replies_of : List Turn → List (List Part)
replies_of turns = map (λ turn. turn.reply) turns

-- under this seed the turns follow one another from the old world on, and leave the new one
abbrev pub run : ℕ → World → List Turn → World → Type 0
run seed old [] new = new ≡ old
run seed old (turn ∷ turns) new =
    (turn.seen ≡ live old turn.call.moment) × (mid : World)
    × step seed old turn.call.moment turn.call.words turn.reply mid × run seed mid turns new

-- a moment is the greatest of the clock's answers so far, each cut at the greatest moment
abbrev pub moment_after : ℕ → ℕ → ℕ
moment_after last answer = max last (min answer latest)
