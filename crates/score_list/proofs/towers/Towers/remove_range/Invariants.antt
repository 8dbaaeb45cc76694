use Rattle.std.proofs.Common.{◌≡◌, ◌≤◌}
use Rattle.std.specs.List.{remove_range as range_removed}
use Rattle.score_list.specs.Linked.{items, IsLinked, IsPath}
use Rattle.score_list.proofs.towers.Towers.remove_range.Given as goal

abbrev pub invariant-loop : goal.invariant-loop
invariant-loop l = record {
  linked : IsLinked l.self;
  path : IsPath l.self l.from l.path;
  begun : l.from ≤ l.counter;
  bound : l.counter ≤ l.to;
  items_are : items l.self ≡ range_removed (items l.fn.self) l.from l.counter;
}
