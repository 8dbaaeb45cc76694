-- What becomes of a string (Redis command reference, "APPEND", "SETRANGE").
use Rattle.std.specs.Prelude.{ℕ, ◌+◌, ◌<◌, ◌≤◌, List, ◌++◌, length}
use Rattle.plain_world.specs.Words.{longest}
use Rattle.plain_model.specs.StringSteps.{written_over}
use Rattle.cmd_values.specs.declared.strings.changing.Change.{Change}
use Rattle.cmd_values.specs.declared.strings.changing.Change.TheVariants as changes

abbrev pub changed : Change → List ℕ → List ℕ
changed (changes.Append tail) bytes = bytes ++ tail.now
changed (changes.Write place piece) bytes = written_over bytes place piece.now

-- what it becomes is no longer than a string may be, and a piece that is written over it isn't empty
abbrev pub HasRoom : Change → List ℕ → Type 0
HasRoom (changes.Append tail) bytes = length bytes + length tail.now ≤ longest
HasRoom (changes.Write place piece) bytes = (0 < length piece.now) × (place + length piece.now ≤ longest)
