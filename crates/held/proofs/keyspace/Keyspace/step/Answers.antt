use Rattle.std.proofs.Common.{subst}
use Rattle.held.specs.Databases.{Bases}
use Rattle.held.specs.Rehash.{Rehashes}
use Rattle.held.proofs.keyspace.Keyspace.step.Goals as goal

pub returns-then-step_deadlines-clause-steps : goal.returns-then-step_deadlines-clause-steps
returns-then-step_deadlines-clause-steps g c found =
    let last = c.step_deadlines.new.self.bases in
    subst (λ (b : Bases _). Rehashes (g.B.BlockStore.blocks c.args.self.now.store) b last) (c.step_keys.ensures.same c.if-step_keys.false)
    (subst (λ s. Rehashes (g.B.BlockStore.blocks s) c.step_keys.new.self.bases last) c.step_keys.ensures.store (c.step_deadlines.ensures.steps c.if-step_deadlines.true))
