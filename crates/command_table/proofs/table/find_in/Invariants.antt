use Rattle.std.proofs.Common.{◌≡◌, drop}
use Rattle.command_table.specs.Rows.{found_in}
use Rattle.command_table.proofs.table.find_in.Given as goal

-- what is found is found behind the rows that were looked at
abbrev pub invariant-loop-name : goal.invariant-loop-name
invariant-loop-name l = found_in l.rows l.word ≡ found_in (drop l.name-index l.rows) l.word
