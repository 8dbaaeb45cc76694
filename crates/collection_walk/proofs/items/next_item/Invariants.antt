use Rattle.std.proofs.Common.{◌≡◌}
use Rattle.collection_walk.proofs.Ranks.{rank}
use Rattle.collection_walk.proofs.items.next_item.Given as goal

abbrev pub invariant-loop-at : goal.invariant-loop-at
invariant-loop-at g l = rank l.table.items l.at ≡ rank l.table.items l.from
