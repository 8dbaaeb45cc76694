use Rattle.std.proofs.Common.{Some, IfSome, subst, ap, ◌∙◌}
use Rattle.stream_groups.specs.Groups.{last_of, IsOwned}
use Rattle.stream_groups.proofs.Uses.{group_found}
use Rattle.stream_groups.proofs.groups.Groups.last.Goals as goal

pub returns-in-None : goal.returns-in-None
returns-in-None c = record {
  value = ap last_of (c.in-None.ensures.value ∙ group_found c.self.inside.groups.entries c.args.self.now c.args.name.now c.self.invariant c.self.view_is);
  owned = subst (λ o. IfSome o IsOwned) (c.in-None.ensures.value ∙ group_found c.self.inside.groups.entries c.args.self.now c.args.name.now c.self.invariant c.self.view_is) tt;
}

pub returns-in-Some : goal.returns-in-Some
returns-in-Some c = record {
  value = ap Some c.last.ensures.value ∙ ap last_of (c.in-Some.ensures.value ∙ group_found c.self.inside.groups.entries c.args.self.now c.args.name.now c.self.invariant c.self.view_is);
  owned = subst (λ o. IfSome o IsOwned) (c.in-Some.ensures.value ∙ group_found c.self.inside.groups.entries c.args.self.now c.args.name.now c.self.invariant c.self.view_is) c.last.ensures.owned;
}
