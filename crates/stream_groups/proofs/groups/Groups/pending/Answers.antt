use Rattle.std.proofs.Common.{Some, None, subst, ◌∙◌}
use Rattle.stream_groups.specs.Waits.{Tells}
use Rattle.stream_groups.proofs.Uses.{group_found}
use Rattle.stream_groups.proofs.groups.Groups.pending.Goals as goal

pub returns-in-None : goal.returns-in-None
returns-in-None c = subst (λ o. Tells o None) (c.in-None.ensures.value ∙ group_found c.self.inside.groups.entries c.args.self.now c.args.name.now c.self.invariant c.self.view_is) tt

pub returns-in-Ok : goal.returns-in-Ok
returns-in-Ok c = subst (λ o. Tells o (Some c.in-Ok.waiting))
    (c.in-Some.ensures.value ∙ group_found c.self.inside.groups.entries c.args.self.now c.args.name.now c.self.invariant c.self.view_is) c.in-Ok.ensures
