use Rattle.std.proofs.Common.{sym, ap, ◌∙◌}
use Rattle.std.specs.Option.{option_map}
use Rattle.stream_groups.specs.Groups.{Group}
use Rattle.stream_groups.specs.Kept.{Name}
use Rattle.stream_groups.proofs.Places.{value_at_in_places, nth_none, nth_some}
use Rattle.stream_groups.proofs.groups.Groups.group_at.Goals as goal

pub returns-in-None : goal.returns-in-None
returns-in-None c = sym
    (value_at_in_places c.self.inside.groups.entries c.args.self.now c.self.invariant c.self.view_is c.args.index
    ∙ ap (option_map (λ (e : Name × Group). e.1)) (nth_none c.self.inside.groups.entries c.iter.result c.nth.new.self c.args.index c.iter.ensures.rest c.in-None.ensures.ran))

pub returns-in-Some : goal.returns-in-Some
returns-in-Some c = sym
    (value_at_in_places c.self.inside.groups.entries c.args.self.now c.self.invariant c.self.view_is c.args.index
    ∙ ap (option_map (λ (e : Name × Group). e.1))
    (nth_some c.self.inside.groups.entries c.iter.result c.nth.new.self c.args.index (c.in-Some.field-0-0, c.in-Some.group) c.iter.ensures.rest c.in-Some.ensures.ran))
