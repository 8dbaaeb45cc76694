use Rattle.std.proofs.Common.{refl, None}
use Rattle.cmd_lists.proofs.Between.{none_met}
use Rattle.cmd_lists.proofs.moving.first_at.Goals as goal

pub returns-in-Missing : goal.returns-in-Missing
returns-in-Missing g c = record { no_other = record { before = None; stands = c.in-Missing.ensures }; none = refl }

pub returns-in-None : goal.returns-in-None
returns-in-None g c =
    none_met _ c.args.key.now c.args.end _ (record { deadline = c.in-There.ensures.deadline; stands = c.in-There.ensures.stands }) (rw c.in-None.is at c.in_ok-first_from-in-There.ensures)
