use Rattle.serving.specs.Output.{pending_bytes}
use Rattle.sessions.proofs.Running.{puts_on, puts_memory, all_put}
use Rattle.sessions.proofs.pieces.serve_bytes.Goals as goal

pub returns-in-On-clause-chunk : goal.returns-in-On-clause-chunk
returns-in-On-clause-chunk g c =
    puts_on g.E.Sessions.turns g.E.Server.executes g.E.Server.works c.args.bytes.now c.args.before _ _ _ _ _ _ _ _ _ (pending_bytes c.args.pending.now) _ _ c.requires.pending
    c.in-On.ensures.hub c.finish.result c.in-On.ensures.chunk c.finish.ensures

pub returns-in-On-clause-pending : goal.returns-in-On-clause-pending
returns-in-On-clause-pending g c = all_put _ _ _ _ _ _ c.finish.ensures

pub returns-in-Memory-clause-chunk : goal.returns-in-Memory-clause-chunk
returns-in-Memory-clause-chunk g c =
    puts_memory g.E.Sessions.turns g.E.Server.executes g.E.Server.works c.args.bytes.now c.args.before _ _ _ _ _ _ _ _ _ (pending_bytes c.args.pending.now) _ _ c.requires.pending
    c.finish-in-Memory.result c.in-Memory.ensures.chunk c.finish-in-Memory.ensures

pub returns-in-Memory-clause-pending : goal.returns-in-Memory-clause-pending
returns-in-Memory-clause-pending g c = all_put _ _ _ _ _ _ c.finish-in-Memory.ensures
