use Rattle.rev_cursor.proofs.Walks.{walk_all}
use Rattle.rev_cursor.proofs.laws.one_table_law.Goals as goal

pub returns : goal.returns
returns c = walk_all c.args.bits c.requires
