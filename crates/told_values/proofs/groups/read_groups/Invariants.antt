use Rattle.std.proofs.Common.{◌≡◌, map, take}
use Rattle.std.specs.List.{AllByRecursion}
use Rattle.std.specs.FinMap.{entries}
use Rattle.told_values.specs.Told.{group_told, IsOrderedGroup}
use Rattle.told_values.proofs.groups.read_groups.Given as goal

abbrev pub invariant-loop-at : goal.invariant-loop-at
invariant-loop-at l = record {
  so_far : map group_told l.told.items ≡ take l.at (entries l.stream.groups);
  each : AllByRecursion IsOrderedGroup l.told.items;
}
