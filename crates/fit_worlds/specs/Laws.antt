-- Statements of the laws.
use Rattle.std.specs.Prelude.{ℕ, List}
use Rattle.std.specs.List.{AllByRecursion}
use Rattle.plain_world.specs.Words.{Words}
use Rattle.plain_world.specs.Worlds.{World, new_world, live}
use Rattle.plain_world.specs.declared.reply.Part.{Part}
use Rattle.plain_model.specs.Runs.{Turn, run}
use Rattle.plain_model.specs.Steps.{step}
use Rattle.fit_worlds.specs.Fit.{AreShort, IsFit}

-- a server that was just begun holds a fit world
abbrev pub BegunIsFit : Type 0
BegunIsFit = IsFit new_world

-- a fit world stays fit as time passes and keys are gone
abbrev pub LiveIsFit : Type 0
LiveIsFit = (world : World) (moment : ℕ) → IsFit world → IsFit (live world moment)

-- a request of words of at most 512 MiB each leaves a fit world, whatever it is and whatever it is answered
abbrev pub StepsKeepFit : Type 0
StepsKeepFit =
    (seed : ℕ) (old : World) (moment : ℕ) (words : Words) (reply : List Part) (new : World) → IsFit old → AreShort words
    → step seed old moment words reply new → IsFit new

-- the words of a turn's request have at most 512 MiB each
abbrev pub IsShortTurn : Turn → Type 0
IsShortTurn turn = AreShort turn.call.words

-- a run of such requests leaves a fit world
abbrev pub RunsKeepFit : Type 0
RunsKeepFit =
    (seed : ℕ) (old : World) (turns : List Turn) (new : World) → IsFit old → AllByRecursion IsShortTurn turns
    → run seed old turns new → IsFit new
