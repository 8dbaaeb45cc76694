use Rattle.std.proofs.Common.{Some}
use Rattle.cmd_lists.proofs.moving.is_other.Goals as goal

pub returns-in-There-clause-no_other : goal.returns-in-There-clause-no_other
returns-in-There-clause-no_other g c =
    λ same. record { before = Some _; stands = record { deadline = c.in-There.ensures.deadline; stands = c.in-There.ensures.stands } }
