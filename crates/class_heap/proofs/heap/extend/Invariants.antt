use Rattle.std.proofs.Common.{◌≡◌, ◌≤◌, ℕ, List, length, vec_capacity}
use Rattle.class_heap.specs.declared.entry.Entry.{Entry}
use Rattle.class_heap.specs.Entries.{entry_at}
use Rattle.class_heap.proofs.heap.extend.Given as goal

pub record IsExtended (bound number capacity : ℕ) (before entries : List Entry) : Type 0 where
  pub long : length entries ≡ number
  pub room : bound ≤ capacity
  pub same : (n : ℕ) → entry_at entries n ≡ entry_at before n

abbrev pub invariant-fill : goal.invariant-fill
invariant-fill l = IsExtended l.bound l._number (vec_capacity l.entries) l.initial.entries.items l.entries.items
