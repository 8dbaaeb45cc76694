use Rattle.std.proofs.Common.{refl, [], ◌∙◌}
use Rattle.serving.specs.Timed.{TimedStep, TimedCut}
use Rattle.serving.proofs.Runs.{halves_start, halves_on, of_both}
use Rattle.serving.proofs.Finishing.{finish_protocol, finish_all, finish_memory, finish_quit, breaks_off, protocol_is, false_is, true_is, gives_lent}
use Rattle.serving.proofs.answering.answer_all.Goals as goal

pub requests-init : goal.requests-init
requests-init g c = record {
  halves = halves_start (TimedStep g.E.Server.executes g.E.Server.works g.E.Server.quits) (TimedCut g.E.Server.executes g.E.Server.works g.E.Server.quits) g.E.Server.quits
      c.args.feeder.now.kept _ (g.O.Sink.seen c.args.output.now) _ c.requires;
  fed = refl;
}

pub returns-in-Err-Protocol-clause-answers : goal.returns-in-Err-Protocol-clause-answers
returns-in-Err-Protocol-clause-answers g c =
    let n = protocol_is c.in-Err-Protocol.field-0 _ _ c.requests.feeder c.next_request.new.self c.in-Err-Protocol.field-0-is c.in-Err-Protocol.ensures.next in
    finish_protocol (TimedStep g.E.Server.executes g.E.Server.works g.E.Server.quits) (TimedCut g.E.Server.executes g.E.Server.works g.E.Server.quits) g.E.Server.quits c.args.feeder.now
    c.requests.feeder c.next_request.new.self _ _ _ _ _ _ _
    (of_both (TimedStep g.E.Server.executes g.E.Server.works g.E.Server.quits) (TimedCut g.E.Server.executes g.E.Server.works g.E.Server.quits) g.E.Server.quits _ _ _ _ _ _ _
    c.requests.invariant.halves) c.requests.invariant.fed _ _ c.finish.result n c.finish.ensures

pub returns-in-Err-Memory-clause-answers : goal.returns-in-Err-Memory-clause-answers
returns-in-Err-Memory-clause-answers g c = finish_memory (TimedStep g.E.Server.executes g.E.Server.works g.E.Server.quits) (TimedCut g.E.Server.executes g.E.Server.works g.E.Server.quits)
    g.E.Server.quits _ _ _ _ _ _ _ _ c.requests.invariant.halves refl

pub returns-in-Ok-false-clause-answers : goal.returns-in-Ok-false-clause-answers
returns-in-Ok-false-clause-answers g c =
    let n = false_is c.in-Ok-false.field-0 c.requests.feeder c.next_request.new.self c.in-Ok-false.field-0-test c.in-Ok-false.ensures.next in
    finish_all (TimedStep g.E.Server.executes g.E.Server.works g.E.Server.quits) (TimedCut g.E.Server.executes g.E.Server.works g.E.Server.quits) g.E.Server.quits c.args.feeder.now
    c.requests.feeder c.next_request.new.self _ _ _ _ _ _ _
    (of_both (TimedStep g.E.Server.executes g.E.Server.works g.E.Server.quits) (TimedCut g.E.Server.executes g.E.Server.works g.E.Server.quits) g.E.Server.quits _ _ _ _ _ _ _
    c.requests.invariant.halves) c.requests.invariant.fed c.finish-in-Ok-false.result n c.finish-in-Ok-false.ensures

pub returns-in-Fault-clause-answers : goal.returns-in-Fault-clause-answers
returns-in-Fault-clause-answers g c =
    let n = true_is c.in-Ok-true.field-0 c.requests.feeder c.next_request.new.self c.in-Ok-true.field-0-test c.in-Ok-true.ensures.next in
    let one = gives_lent c.requests.feeder c.next_request.new.self c.current.result n c.current.ensures in
    (breaks_off (TimedStep g.E.Server.executes g.E.Server.works g.E.Server.quits) (TimedCut g.E.Server.executes g.E.Server.works g.E.Server.quits) g.E.Server.quits c.args.feeder.now
    c.requests.feeder c.next_request.new.self c.current.result _ _ _ _ _ _ _ []
    (of_both (TimedStep g.E.Server.executes g.E.Server.works g.E.Server.quits) (TimedCut g.E.Server.executes g.E.Server.works g.E.Server.quits) g.E.Server.quits _ _ _ _ _ _ _
    c.requests.invariant.halves) one c.in-Fault.ensures)

pub returns-in-Quit-clause-answers : goal.returns-in-Quit-clause-answers
returns-in-Quit-clause-answers g c =
    let n = true_is c.in-Ok-true.field-0 c.requests.feeder c.next_request.new.self c.in-Ok-true.field-0-test c.in-Ok-true.ensures.next in
    let one = gives_lent c.requests.feeder c.next_request.new.self c.current.result n c.current.ensures in
    finish_quit (TimedStep g.E.Server.executes g.E.Server.works g.E.Server.quits) (TimedCut g.E.Server.executes g.E.Server.works g.E.Server.quits) g.E.Server.quits c.args.feeder.now
    c.requests.feeder c.next_request.new.self c.current.result _ _ _ _ _ _ _ _
    (of_both (TimedStep g.E.Server.executes g.E.Server.works g.E.Server.quits) (TimedCut g.E.Server.executes g.E.Server.works g.E.Server.quits) g.E.Server.quits _ _ _ _ _ _ _
    c.requests.invariant.halves) one _ _ c.finish-in-Quit.result c.in-Quit.ensures c.finish-in-Quit.ensures

pub returns-in-Memory-clause-answers : goal.returns-in-Memory-clause-answers
returns-in-Memory-clause-answers g c = finish_memory (TimedStep g.E.Server.executes g.E.Server.works g.E.Server.quits) (TimedCut g.E.Server.executes g.E.Server.works g.E.Server.quits)
    g.E.Server.quits _ _ _ _ _ _ _ _ c.requests.invariant.halves c.in-Memory.ensures

pub requests-preserved : goal.requests-preserved
requests-preserved g c =
    let n = true_is c.in-Ok-true.field-0 c.requests.feeder c.next_request.new.self c.in-Ok-true.field-0-test c.in-Ok-true.ensures.next in
    let one = gives_lent c.requests.feeder c.next_request.new.self c.current.result n c.current.ensures in
    record {
      halves = halves_on (TimedStep g.E.Server.executes g.E.Server.works g.E.Server.quits) (TimedCut g.E.Server.executes g.E.Server.works g.E.Server.quits) g.E.Server.quits _ _ _ _ _ _ _
          c.requests.invariant.halves _ c.current.result _ _ _ one c.in-Written.ensures;
      fed = n.fed ∙ c.requests.invariant.fed;
    }
