use Rattle.int_text.proofs.Ones.{score_one}
use Rattle.int_text.proofs.laws.scores_are_one.Goals as goal

pub returns : goal.returns
returns c = score_one
