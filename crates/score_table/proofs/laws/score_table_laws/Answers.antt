use Rattle.score_table.proofs.Depends.{score_table_laws_hold}
use Rattle.score_table.proofs.laws.score_table_laws.Goals as goal

pub returns : goal.returns
returns c = score_table_laws_hold
