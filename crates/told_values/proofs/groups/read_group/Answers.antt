use Rattle.std.proofs.Common.{◌∙◌, List, ℕ, Some, sym, ap}
use Rattle.std.specs.FinMap.{get}
use Rattle.stream_groups.specs.Groups.{last_of}
use Rattle.told_values.proofs.Grouped.{group_tells, last_there, named_there}
use Rattle.told_values.proofs.groups.read_group.Goals as goal

pub unreachable-requires : goal.unreachable-requires
unreachable-requires c = named_there c.args.stream.now.groups c.args.at c.requires c.in-None.ensures

pub unreachable-requires-in-None-group_last : goal.unreachable-requires-in-None-group_last
unreachable-requires-in-None-group_last c = last_there c.args.stream.now.groups c.args.at c.in-Some.name.now c.in-Some.ensures c.in-None-group_last.ensures

pub returns : goal.returns
returns c =
    let all = c.args.stream.now.groups in
    group_tells all c.args.at _ c.requires (ap (λ (t : List ℕ). Some t) c.in_ok-name-in-Some-group_last.ensures.items ∙ c.in-Some.ensures)
    (c.in-Some-group_last.ensures ∙ ap (λ (t : List ℕ). last_of (get all t)) (sym c.in_ok-name-in-Some-group_last.ensures.items)) c.in_ok-consumers-in-Some-group_last.ensures
    c.in_ok-pending-in-Some-group_last.ensures
