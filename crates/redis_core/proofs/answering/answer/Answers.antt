use Rattle.std.proofs.Common.{subst, sym}
use Rattle.redis_core.specs.Engines.{Answers}
use Rattle.redis_core.proofs.Steps.{nothing_answers, refused_answers}
use Rattle.redis_core.proofs.answering.answer.Goals as goal

pub returns-in-Err-Refused-clause-answers : goal.returns-in-Err-Refused-clause-answers
returns-in-Err-Refused-clause-answers g c =
    subst
    (Answers g.B.BlockStore.blocks g.B.BlockStore.heap g.B.BlockStore.step c.args.keyspace.now c.args.keyspace.now c.args.walk.now c.args.walk.now c.args.at.now _)
    (sym c.replied.ensures)
    (refused_answers g.B.BlockStore.blocks g.B.BlockStore.heap g.B.BlockStore.step c.args.at.now c.args.walk.now c.args.keyspace.now _ c.in-Err-Refused.refusal c.refused.result
    c.requires.ready (rw c.in-Err-Refused.field-0-is at c.in-Err-Refused.ensures.reads) c.refused.ensures)

pub returns-in-Err-Memory-clause-answers : goal.returns-in-Err-Memory-clause-answers
returns-in-Err-Memory-clause-answers g c = nothing_answers _ _ _ c.args.at.now c.args.walk.now c.args.keyspace.now _ _ c.requires.ready

pub returns-in-Ok-clause-answers : goal.returns-in-Ok-clause-answers
returns-in-Ok-clause-answers g c =
    subst (λ m. Answers g.B.BlockStore.blocks g.B.BlockStore.heap g.B.BlockStore.step c.args.keyspace.now c.run-answered.new.keyspace c.args.walk.now c.run-answered.new.walk c.args.at.now m c.run-answered.result)
    (sym (rw c.in-Ok.command-is at c.in-Ok.ensures.reads)) c.run-answered.ensures.answers
