use Rattle.std.proofs.Common.{arith}
use Rattle.std.proofs.lemmas.List.{length-map}
use Rattle.request_queue.proofs.Ways.{array_whole}
use Rattle.request_queue.proofs.queue.Queue.run.Goals as goal

pub into_reply-requires : goal.into_reply-requires
into_reply-requires g c =
    let many = c.len.ensures in
    let same = c.deref.ensures.len in
    let mapped = length-map c.deref.result.now (λ r. r.items) in
    array_whole (g.E.Server.executes c.args.moment) c.args.engine.now c.run_all.new.engine _ _ _ _ _ c.in_ok-run_all.ensures c.new-parts.ensures c.in_ok-push.ensures.ok
    (omega (arith, many, same, mapped))
