use Rattle.std.proofs.Common.{subst, ◌∙◌}
use Rattle.plain_model.specs.Meant.{meant}
use Rattle.redis_core.specs.Engines.{Keeps}
use Rattle.redis_core.proofs.Steps.{performs, observed_keeps, observed_served}
use Rattle.redis_core.proofs.Walks.{ends_least}
use Rattle.redis_core.proofs.engine.Engine.execute.Goals as goal

pub returns-then-self-clause-keeps : goal.returns-then-self-clause-keeps
returns-then-self-clause-keeps g c =
    subst (Keeps g.B.BlockStore.blocks c.args.self.now) c.self.view_is (observed_keeps _ c.args.self.now _ _ (c.self.view_is ∙ c.observe.ensures) c.self.invariant.sound)

pub returns-in-Ok-clause-executes : goal.returns-in-Ok-clause-executes
returns-in-Ok-clause-executes g c = performs _ _ _ c.args.self.now _ c.args.moment (meant c.args.request.now) c.in-Ok.answered _ _ _ (c.self.view_is ∙ c.observe.ensures) c.if-self.false
    c.in-Ok.ensures.answers

pub returns-then-self-clause-served : goal.returns-then-self-clause-served
returns-then-self-clause-served g c asks = observed_served g.B.BlockStore.step c.args.self.now c.observe.new.self _ c.observe.ensures

pub returns-in-Ok-clause-least : goal.returns-in-Ok-clause-least
returns-in-Ok-clause-least g c none ends = ends_least g.B.BlockStore.blocks g.B.BlockStore.heap _ _ _ _ _ _ (returns-in-Ok-clause-executes g c).answers.tends none ends
