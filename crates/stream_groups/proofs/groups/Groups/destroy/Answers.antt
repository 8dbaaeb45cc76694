use Rattle.std.proofs.Common.{is_some, ap, ◌∙◌}
use Rattle.std.specs.FinMap.{remove}
use Rattle.stream_groups.proofs.Uses.{group_found, named_remove}
use Rattle.stream_groups.proofs.groups.Groups.destroy.Goals as goal

pub returns-clause-value : goal.returns-clause-value
returns-clause-value c = c.is_some.ensures ∙ ap is_some (c.remove.ensures.value ∙ group_found c.self.inside.groups.entries c.args.self.now c.args.name.now c.self.invariant c.self.view_is)

pub returns-clause-new : goal.returns-clause-new
returns-clause-new c = named_remove (λ g. g) c.self.inside.groups.entries c.self.invariant c.remove.new.self.entries c.remove.ensures.ordered c.args.name.now c.remove.ensures.entries
    ∙ ap (λ m. remove m c.args.name.now) c.self.view_is
