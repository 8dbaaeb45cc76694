use Rattle.std.proofs.Common.{rules}
use Rattle.command_table.proofs.Tables.{no_name}
use Rattle.command_table.proofs.table.find.Goals as goal

pub returns-in_default : goal.returns-in_default
returns-in_default c = search (rules, no_name)
