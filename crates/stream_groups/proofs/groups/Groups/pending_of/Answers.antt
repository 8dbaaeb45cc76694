use Rattle.std.proofs.Common.{Some, ap, ◌∙◌}
use Rattle.std.specs.Option.{option_map}
use Rattle.stream_groups.specs.Groups.{Group, ids_of}
use Rattle.stream_groups.proofs.Uses.{group_found}
use Rattle.stream_groups.proofs.groups.Groups.pending_of.Goals as goal

pub returns-in-None : goal.returns-in-None
returns-in-None c = ap (option_map (λ (group : Group). ids_of group.pending c.args.consumer.now c.args.above c.args.limit))
    (c.in-None.ensures.value ∙ group_found c.self.inside.groups.entries c.args.self.now c.args.name.now c.self.invariant c.self.view_is)

pub returns-in-Ok : goal.returns-in-Ok
returns-in-Ok c = ap Some c.in-Ok.ensures ∙ ap (option_map (λ (group : Group). ids_of group.pending c.args.consumer.now c.args.above c.args.limit))
    (c.in-Some.ensures.value ∙ group_found c.self.inside.groups.entries c.args.self.now c.args.name.now c.self.invariant c.self.view_is)
