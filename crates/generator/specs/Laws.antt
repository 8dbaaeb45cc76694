-- The law of the commands of a seed.
use Rattle.std.specs.Prelude.{◌≡◌, ℕ, suc, List, [], ◌∷◌}
use Rattle.plain_model.specs.Runs.{Call, Turn, calls_of, run}
use Rattle.plain_world.specs.Words.{Words}
use Rattle.plain_world.specs.Worlds.{World}
use Rattle.generator.specs.Commands.{commands}

-- requests, each at the moment of its number, which come after so many others
abbrev pub numbered : ℕ → List Words → List Call
numbered before [] = []
numbered before (words ∷ asked) = record { words = words; moment = suc before } ∷ numbered (suc before) asked

-- the first n commands of a seed, each at the moment of its number, from 1 on
abbrev pub generated : ℕ → ℕ → List Call
generated n seed = numbered 0 (commands seed n)

-- each of these commands has one answer: two runs of them from one world are the same
abbrev pub RunsAreOne : Type 0
RunsAreOne =
    (n seed : ℕ) (old : World) (turns others : List Turn) (new other : World) → calls_of turns ≡ generated n seed
    → calls_of others ≡ generated n seed → run seed old turns new → run seed old others other
    → (turns ≡ others) × (new ≡ other)
