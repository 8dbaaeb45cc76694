use Rattle.std.proofs.Common.{refl}
use Rattle.command_table.proofs.zsets.no_rules.Goals as goal

pub returns : goal.returns
returns c = refl
