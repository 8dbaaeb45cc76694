use Rattle.std.proofs.Common.{ap}
use Rattle.program_top.specs.WordsRead.{given_read}
use Rattle.sessions_top.proofs.Worlds.{finishes_as}
use Rattle.sessions_top.proofs.top_call.run_given.Goals as goal

pub returns-in-Run : goal.returns-in-Run
returns-in-Run g c = finishes_as _ _ _ _ c.run.result (ap given_read c.in-Run.is) c.run.ensures
