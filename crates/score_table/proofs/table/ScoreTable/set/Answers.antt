use Rattle.blocks.specs.Blocks.{no_step}
use Rattle.score_table.proofs.table.ScoreTable.set.Goals as goal

pub returns-in-Some-clause-served : goal.returns-in-Some-clause-served
returns-in-Some-clause-served g c = no_step
