use Rattle.std.proofs.Common.{Some, sym, ap, ◌∙◌}
use Rattle.std.specs.Option.{option_map}
use Rattle.stream_groups.specs.Groups.{Group}
use Rattle.stream_groups.specs.Kept.{Name}
use Rattle.stream_groups.proofs.Places.{name_at_in_places, nth_none, nth_some}
use Rattle.stream_groups.proofs.groups.Groups.group_name.Goals as goal

pub returns-in-None : goal.returns-in-None
returns-in-None c = sym
    (name_at_in_places c.self.inside.groups.entries c.args.self.now c.self.invariant c.self.view_is c.args.index
    ∙ ap (option_map (λ (e : Name × Group). e.0.items)) (nth_none c.self.inside.groups.entries c.iter.result c.nth.new.self c.args.index c.iter.ensures.rest c.in-None.ensures.ran))

pub returns-in-Some : goal.returns-in-Some
returns-in-Some c = ap Some c.as_slice.ensures.value ∙ sym
    (name_at_in_places c.self.inside.groups.entries c.args.self.now c.self.invariant c.self.view_is c.args.index
    ∙ ap (option_map (λ (e : Name × Group). e.0.items))
    (nth_some c.self.inside.groups.entries c.iter.result c.nth.new.self c.args.index (c.in-Some.name, c.in-Some.field-0-1) c.iter.ensures.rest c.in-Some.ensures.ran))
