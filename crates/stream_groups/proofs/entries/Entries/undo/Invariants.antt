use Rattle.std.proofs.Common.{◌≡◌, ◌≤◌, length, take}
use Rattle.stream_groups.specs.Kept.{undone, logged}
use Rattle.stream_groups.proofs.entries.Entries.undo.Given as goal

abbrev pub invariant-loop-was : goal.invariant-loop-was
invariant-loop-was l = record {
  within : length l.log.items ≤ length l.ids;
  done : undone l.self (take (length l.log.items) l.ids) (logged l.log.items) ≡ undone l.fn.self (take (length l.fn.log.items) l.fn.ids) (logged l.fn.log.items);
}

abbrev pub decreases-loop-was : goal.decreases-loop-was
decreases-loop-was l = length l.log.items
