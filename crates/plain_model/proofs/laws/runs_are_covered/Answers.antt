use Rattle.plain_model.proofs.Covered.{runs_covered}
use Rattle.plain_model.proofs.laws.runs_are_covered.Goals as goal

pub returns : goal.returns
returns c = runs_covered
