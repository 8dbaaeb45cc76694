use Rattle.std.proofs.Common.{◌∙◌, ◌≤◌, map, ap, subst, sym, arith}
use Rattle.std.specs.List.{AllByRecursion}
use Rattle.std.specs.FinMap.{len}
use Rattle.told_values.specs.Told.{group_told, IsOrderedGroup}
use Rattle.told_values.proofs.Grouped.{each_more, group_more, groups_are, groups_ordered}
use Rattle.told_values.proofs.groups.read_groups.Goals as goal

pub loop-at-preserved : goal.loop-at-preserved
loop-at-preserved c =
    let all = c.args.stream.now.groups in
    let told = c.loop-at.told.items in
    let group = c.in_ok-group.group in
    let tells = c.in_ok-group.ensures in
    record {
      so_far = ap (map group_told) c.in_ok-push.ensures.items ∙ group_more all c.loop-at.at told group tells c.loop-at.invariant.so_far;
      each = subst (AllByRecursion IsOrderedGroup) (sym c.in_ok-push.ensures.items) (each_more told group c.loop-at.invariant.each tells.ordered);
    }

pub returns-clause-told : goal.returns-clause-told
returns-clause-told c =
    let all = c.args.stream.now.groups in
    let whole : len all ≤ c.loop-at.at = omega (arith, c.loop-at-test.false, c.groups-count.ensures) in
    groups_are all c.loop-at.at c.loop-at.told.items whole c.loop-at.invariant.so_far

pub returns-clause-ordered : goal.returns-clause-ordered
returns-clause-ordered c =
    let all = c.args.stream.now.groups in
    let whole : len all ≤ c.loop-at.at = omega (arith, c.loop-at-test.false, c.groups-count.ensures) in
    groups_ordered all c.loop-at.at c.loop-at.told.items whole c.loop-at.invariant.so_far c.loop-at.invariant.each
