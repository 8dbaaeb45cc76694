use Rattle.std.proofs.Common.{[], refl, ◌∙◌}
use Rattle.serving.proofs.Finishing.{protocol_is, false_is, true_is, gives_lent}
use Rattle.sessions.proofs.Answered.{serves_nothing, passed, serves_more, quits_more, breaks_more, serves_same}
use Rattle.sessions.proofs.answering.answer_all.Goals as goal

pub requests-init : goal.requests-init
requests-init g c = record {
  serves = serves_nothing g.E.Sessions.turns g.E.Server.executes g.E.Server.works c.args.session c.args.feeder.now.kept _ (g.O.Sink.seen c.args.output.now) _;
  fed = refl;
}

pub returns-in-Err-Protocol : goal.returns-in-Err-Protocol
returns-in-Err-Protocol g c =
    let n = protocol_is c.in-Err-Protocol.field-0 _ _ c.requests.feeder c.next_request.new.self c.in-Err-Protocol.field-0-is c.in-Err-Protocol.ensures.next in (
      passed g.E.Sessions.turns g.E.Server.executes g.E.Server.works c.args.session _ _ _ _ _ _ _ _ c.requests.invariant.serves _ n.gives,
      record { from = n.from; fault = n.fault; place = n.place },
      n.fed ∙ c.requests.invariant.fed,
    )

pub returns-in-Err-Memory : goal.returns-in-Err-Memory
returns-in-Err-Memory g c = (_, _, c.requests.invariant.serves)

pub returns-in-Ok-false : goal.returns-in-Ok-false
returns-in-Ok-false g c =
    let n = false_is c.in-Ok-false.field-0 c.requests.feeder c.next_request.new.self c.in-Ok-false.field-0-test c.in-Ok-false.ensures.next in
    (passed g.E.Sessions.turns g.E.Server.executes g.E.Server.works c.args.session _ _ _ _ _ _ _ _ c.requests.invariant.serves _ n.gives, n.unread, n.fed ∙ c.requests.invariant.fed)

pub returns-in-Fault : goal.returns-in-Fault
returns-in-Fault g c =
    let n = true_is c.in-Ok-true.field-0 c.requests.feeder c.next_request.new.self c.in-Ok-true.field-0-test c.in-Ok-true.ensures.next in
    let one = gives_lent c.requests.feeder c.next_request.new.self c.current.result n c.current.ensures in
    breaks_more g.E.Sessions.turns g.E.Server.executes g.E.Server.works c.args.session _ _ _ _ _ _ _ _ c.requests.invariant.serves _ c.current.result one _ _ [] c.in-Fault.ensures

pub returns-in-Quit : goal.returns-in-Quit
returns-in-Quit g c =
    let n = true_is c.in-Ok-true.field-0 c.requests.feeder c.next_request.new.self c.in-Ok-true.field-0-test c.in-Ok-true.ensures.next in
    let one = gives_lent c.requests.feeder c.next_request.new.self c.current.result n c.current.ensures in
    quits_more g.E.Sessions.turns g.E.Server.executes g.E.Server.works c.args.session _ _ _ _ _ _ _ _ c.requests.invariant.serves _ c.current.result one _ _ _ c.in-Quit.ensures.0 c.in-Quit.ensures.1

pub returns-in-Memory : goal.returns-in-Memory
returns-in-Memory g c =
    (_, _, serves_same g.E.Sessions.turns g.E.Server.executes g.E.Server.works c.args.session _ _ _ _ _ _ _ _ c.requests.invariant.serves _ _ c.in-Memory.ensures.0 c.in-Memory.ensures.1)

pub requests-preserved : goal.requests-preserved
requests-preserved g c =
    let n = true_is c.in-Ok-true.field-0 c.requests.feeder c.next_request.new.self c.in-Ok-true.field-0-test c.in-Ok-true.ensures.next in
    let one = gives_lent c.requests.feeder c.next_request.new.self c.current.result n c.current.ensures in
    record {
      serves = serves_more g.E.Sessions.turns g.E.Server.executes g.E.Server.works c.args.session _ _ _ _ _ _ _ _ c.requests.invariant.serves _ c.current.result one _ _ _ c.in-Written.ensures.0
          c.in-Written.ensures.1;
      fed = n.fed ∙ c.requests.invariant.fed;
    }
