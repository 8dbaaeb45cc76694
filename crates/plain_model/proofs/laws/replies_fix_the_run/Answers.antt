use Rattle.plain_model.proofs.FixedRuns.{run_fixed}
use Rattle.plain_model.proofs.laws.replies_fix_the_run.Goals as goal

pub returns : goal.returns
returns c = run_fixed
