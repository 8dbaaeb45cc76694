use Rattle.std.proofs.Common.{rules, subst, arith}
use Rattle.std.specs.List.{All}
use Rattle.std.proofs.lemmas.List.{take_all}
use Rattle.std.proofs.lemmas.List.Elements.{All-more}
use Rattle.session_desk.specs.Watching.{IsSilent}
use Rattle.session_desk.proofs.desk.any_watches.Goals as goal

pub loop-session-preserved : goal.loop-session-preserved
loop-session-preserved g c =
    let silent : IsSilent c.session-item.result = search rules in
    All-more IsSilent c.args.sessions.now c.loop-session.session-index c.session-item.result c.loop-session-test.true c.loop-session.invariant (subst IsSilent c.session-item.is silent)

pub returns : goal.returns
returns g c off = subst (All IsSilent) (take_all c.loop-session.session-index c.args.sessions.now (omega arith)) c.loop-session.invariant
