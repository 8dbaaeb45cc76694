use Rattle.command_table.proofs.Tables.{finds}
use Rattle.command_table.proofs.table.look_up.Goals as goal

pub returns : goal.returns
returns c = finds c.args.rows.now c.args.word.now c.find_in.result c.requires c.find_in.ensures
