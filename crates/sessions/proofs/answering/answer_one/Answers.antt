use Rattle.std.proofs.Common.{refl, sym, ◌∙◌, rules}
use Rattle.sessions.proofs.Answered.{tells_one, fails_one}
use Rattle.sessions.proofs.answering.answer_one.Goals as goal

pub returns-in-Err : goal.returns-in-Err
returns-in-Err g c = (refl, refl)

pub returns-in-Err-write_unit : goal.returns-in-Err-write_unit
returns-in-Err-write_unit g c =
    fails_one g.E.Sessions.turns g.E.Server.executes g.E.Server.works c.args.session c.args.request.now _ _ _ _ _ _ _ c.moment_of-moment.result c.moment_of-moment.ensures
    c.turn_to.ensures.turns c.in-Ok.ensures.executes _ _ _ c.in-Err-write_unit.ensures

pub returns-then-done : goal.returns-then-done
returns-then-done g c = (
  tells_one g.E.Sessions.turns g.E.Server.executes g.E.Server.works c.args.session c.args.request.now _ _ _ _ _ _ _ c.moment_of-moment.result c.moment_of-moment.ensures
      c.turn_to.ensures.turns c.in-Ok.ensures.executes _ _ _ _ _ _ c.rest.ensures c.in-Ok-write_unit.ensures,
  sym (c.turn_to.ensures.quits c.args.request.now) ∙ search rules,
)

pub returns : goal.returns
returns g c = (
  tells_one g.E.Sessions.turns g.E.Server.executes g.E.Server.works c.args.session c.args.request.now _ _ _ _ _ _ _ c.moment_of-moment.result c.moment_of-moment.ensures
      c.turn_to.ensures.turns c.in-Ok.ensures.executes _ _ _ _ _ _ c.rest.ensures c.in-Ok-write_unit.ensures,
  sym (c.turn_to.ensures.quits c.args.request.now) ∙ search rules,
)
