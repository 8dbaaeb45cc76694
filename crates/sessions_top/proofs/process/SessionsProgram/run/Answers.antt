use Rattle.std.proofs.Common.{refl}
use Rattle.sessions_top.proofs.process.SessionsProgram.run.Goals as goal

pub returns-clause-status : goal.returns-clause-status
returns-clause-status g c = record { before = _; after = _; noted_is = refl; noted_then = refl; answers = c.redis_sessions.ensures }
