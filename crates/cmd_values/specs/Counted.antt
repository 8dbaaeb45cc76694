-- What a command that counts finds at a key (Redis command reference, "INCRBY": a missing key counts as 0).
use Rattle.std.specs.Prelude.{ℕ, List, Some, None}
use Rattle.plain_world.specs.Worlds.{World}
use Rattle.cmd_values.specs.declared.strings.counting.Counted.{Counted}
use Rattle.cmd_values.specs.declared.strings.counting.Counted.TheVariants.{Number, NoNumber, Other}
use Rattle.cmd_values.specs.Found.{FoundOther, HasNumber}

abbrev pub IsCounted : World → List ℕ → Counted → Type 0
IsCounted world key (Number n) = HasNumber world key (Some n)
IsCounted world key NoNumber = HasNumber world key None
IsCounted world key Other = FoundOther world key
