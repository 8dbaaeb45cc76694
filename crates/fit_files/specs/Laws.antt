-- The statement of the law.
use Rattle.std.specs.Prelude.{ℕ, List}
use Rattle.plain_world.specs.Worlds.{World}
use Rattle.rdb_grammar.specs.Files.{IsFile}
use Rattle.fit_worlds.specs.Fit.{IsFit}

-- the world of a file can be written as one
abbrev pub FilesAreFit : Type 0
FilesAreFit = (bytes : List ℕ) (moment : ℕ) (world : World) → IsFile bytes moment world → IsFit world
