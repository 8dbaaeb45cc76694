use Rattle.std.proofs.Common.{take, map}
use Rattle.request_queue.specs.Queued.{RunsBehind}
use Rattle.request_queue.proofs.queue.run_all.Given as goal

abbrev pub invariant-loop-request : goal.invariant-loop-request
invariant-loop-request g l = RunsBehind (g.E.Server.executes l.moment) l.initial.engine (map (λ r. r.items) (take l.request-index l.requests)) l.initial.parts l.parts l.engine
