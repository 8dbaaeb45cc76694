use Rattle.std.proofs.Common.{refl}
use Rattle.saving_top.proofs.process.SavingProgram.run.Goals as goal

pub returns-clause-status : goal.returns-clause-status
returns-clause-status g c = record { before = _; after = _; shelf = _; shelf' = _; noted_is = refl; noted_then = refl; answers = c.redis_core_save.ensures }
