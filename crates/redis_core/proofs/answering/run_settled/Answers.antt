use Rattle.std.proofs.Common.{rules, subst, sym}
use Rattle.keyspace.specs.Commands.{KeepsTo}
use Rattle.redis_core.specs.Touched.{touched_of, shrinking, AreDatabases}
use Rattle.redis_core.proofs.Fitting.{databases_of}
use Rattle.redis_core.proofs.Settled.{settled_runs, settled_fails, settled_settles, covered}
use Rattle.redis_core.proofs.answering.run_settled.Goals as goal

pub settle-requires-clause-databases : goal.settle-requires-clause-databases
settle-requires-clause-databases g c = subst AreDatabases (sym c.touched_by.ensures) (databases_of c.args.at.now.db c.requires.ready.db c.args.command.now c.requires.asked)

pub returns-in-Ok-settle-clause-runs : goal.returns-in-Ok-settle-clause-runs
returns-in-Ok-settle-clause-runs g c =
    settled_runs g.B.BlockStore.blocks g.B.BlockStore.step c.args.keyspace.now c.run_family.new.keyspace c.settle.new.keyspace c.args.at.now c.args.command.now c.in-Ok.reply
    (c.if-is_refusal.ensures.calm (search rules)) c.in-Ok.ensures
    (subst (λ t. KeepsTo g.B.BlockStore.blocks g.B.BlockStore.step (shrinking t) c.run_family.new.keyspace c.settle.new.keyspace) c.touched_by.ensures c.settle.ensures.held)
    c.requires.common c.settle.ensures.world

pub returns-in-Ok-settle-clause-settles : goal.returns-in-Ok-settle-clause-settles
returns-in-Ok-settle-clause-settles g c =
    settled_settles g.B.BlockStore.blocks g.B.BlockStore.step c.args.keyspace.now c.run_family.new.keyspace c.settle.new.keyspace c.args.at.now c.args.command.now c.in-Ok.reply
    (c.if-is_refusal.ensures.calm (search rules)) c.in-Ok.ensures
    (subst (λ t. KeepsTo g.B.BlockStore.blocks g.B.BlockStore.step (shrinking t) c.run_family.new.keyspace c.settle.new.keyspace) c.touched_by.ensures c.settle.ensures.held)
    c.requires.ready.sound
    (covered (touched_of c.args.at.now.db c.args.command.now) c.touched_by.result (sym c.touched_by.ensures) c.settle.new.keyspace.bases c.in-Ok-settle.ensures.settled)

pub returns-in-Err-settle-clause-runs : goal.returns-in-Err-settle-clause-runs
returns-in-Err-settle-clause-runs g c =
    settled_fails g.B.BlockStore.blocks g.B.BlockStore.step c.args.keyspace.now c.run_family.new.keyspace c.settle.new.keyspace c.args.at.now c.args.command.now c.in-Ok.reply
    (c.if-is_refusal.ensures.calm (search rules)) c.in-Ok.ensures
    (subst (λ t. KeepsTo g.B.BlockStore.blocks g.B.BlockStore.step (shrinking t) c.run_family.new.keyspace c.settle.new.keyspace) c.touched_by.ensures c.settle.ensures.held)
    c.in-Err-settle.error
