use Rattle.std.proofs.Common.{[], refl, subst}
use Rattle.saving_top.specs.AskedRead.{AreAsked}
use Rattle.saving_top.proofs.Whole.{plain_answers, unread_answers, asked_answers}
use Rattle.saving_top.proofs.top_call.redis_core_save.Goals as goal

pub run_given-requires : goal.run_given-requires
run_given-requires g c = subst AreAsked c.in-Ok-Plain.field-0-is c.in-Ok-Plain.ensures.taken

pub run_closed-requires-clause-limits : goal.run_closed-requires-clause-limits
run_closed-requires-clause-limits g c = (subst AreAsked c.in-Ok-Closed.field-0-is c.in-Ok-Closed.ensures.taken).0

pub run_closed-requires-clause-limit : goal.run_closed-requires-clause-limit
run_closed-requires-clause-limit g c = (subst AreAsked c.in-Ok-Closed.field-0-is c.in-Ok-Closed.ensures.taken).1

pub returns-in-Ok-Plain : goal.returns-in-Ok-Plain
returns-in-Ok-Plain g c =
    asked_answers _ _ _ _ _ _ _ _ c.in-Ok-Plain.ensures.asked c.in-Ok-Plain.field-0-is (plain_answers _ _ _ _ c.run_given.result _ c.run_given.ensures c.status.ensures)

pub returns-in-Ok-Closed : goal.returns-in-Ok-Closed
returns-in-Ok-Closed g c = asked_answers _ _ _ _ _ _ _ _ c.in-Ok-Closed.ensures.asked c.in-Ok-Closed.field-0-is c.run_closed.ensures

pub returns-in-Err : goal.returns-in-Err
returns-in-Err g c =
    unread_answers _ (record { host = _; input = _; output = _; notes = _; clock = _; pacers = [] }) _ _ _ refl c.note.ensures c.status-in-Err.ensures
