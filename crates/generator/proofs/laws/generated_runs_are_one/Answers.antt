use Rattle.generator.proofs.Exact.{runs_one}
use Rattle.generator.proofs.laws.generated_runs_are_one.Goals as goal

pub returns : goal.returns
returns c = runs_one
