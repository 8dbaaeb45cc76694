use Rattle.std.proofs.Common.{rules, map, take, subst, ◌∙◌}
use Rattle.plain_world.specs.Parts.{IsReply}
use Rattle.request_queue.specs.Queued.{RunsBehind}
use Rattle.request_queue.proofs.Ways.{runs_nothing, runs_on, kept_next}
use Rattle.request_queue.proofs.queue.run_all.Goals as goal

pub loop-request-init : goal.loop-request-init
loop-request-init g c = runs_nothing (g.E.Server.executes c.args.moment) c.args.engine.now c.args.parts.now

pub loop-request-preserved : goal.loop-request-preserved
loop-request-preserved g c =
    let X = g.E.Server.executes c.args.moment in
    let whole : IsReply c.in_ok-reply.reply = search rules in
    let one = runs_on X (map (λ r. r.items) (take c.loop-request.request-index c.args.requests.now)) c.request-item.result.items c.args.engine.now c.loop-request.engine
    c.execute_bytes.new.engine c.args.parts.now c.loop-request.parts c.append.new.self c.in_ok-reply.reply c.loop-request.invariant
    (λ words sound same. c.in_ok-reply.ensures.executes words sound (c.deref.ensures.value ∙ same)) whole c.in_ok-append.ensures.ok in
    let kept = kept_next (λ r. r.items) c.args.requests.now c.loop-request.request-index c.request-item.result c.loop-request-test.true c.request-item.is in
    subst (λ l. RunsBehind X c.args.engine.now l c.args.parts.now c.append.new.self c.execute_bytes.new.engine) kept one
