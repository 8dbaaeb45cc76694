use Rattle.std.proofs.Common.{Some}
use Rattle.cmd_sets.proofs.moving.may_take.Goals as goal

pub returns-in-There : goal.returns-in-There
returns-in-There g c = let found = c.in-There.ensures in (Some _, record { deadline = found.deadline; stands = found.stands })
