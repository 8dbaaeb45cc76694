-- Statements of the laws.
use Rattle.std.specs.Prelude.{◌≡◌, ℕ, List}
use Rattle.std.specs.List.{AllByRecursion}
use Rattle.plain_world.specs.Spelling.{spelled}
use Rattle.plain_world.specs.Worlds.{World}
use Rattle.plain_world.specs.Laws.{IsHeld}
use Rattle.plain_model.specs.Coverage.{IsCovered}
use Rattle.plain_model.specs.Runs.{Turn, calls_of, replies_of, run}

-- two runs from one world with the same calls, whose replies are spelled by the same bytes, have the same turns, and
-- leave the same world
abbrev pub RepliesFixTheRun : Type 0
RepliesFixTheRun =
    (seed : ℕ) (old : World) (turns others : List Turn) (new other : World) → AllByRecursion IsHeld (replies_of turns)
    → AllByRecursion IsHeld (replies_of others)
    → run seed old turns new → run seed old others other → calls_of turns ≡ calls_of others
    → spelled (replies_of turns) ≡ spelled (replies_of others) → (turns ≡ others) × (new ≡ other)

-- every run covers: whatever its commands are, and however many scans are unfinished at once
abbrev pub RunsAreCovered : Type 0
RunsAreCovered = (seed : ℕ) (old : World) (turns : List Turn) (new : World) → run seed old turns new → IsCovered turns
