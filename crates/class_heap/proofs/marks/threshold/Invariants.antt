use Rattle.std.proofs.Common.{ℕ, ◌<◌, ◌≤◌, ◌-◌, List, count_by}
use Rattle.class_heap.specs.declared.entry.Entry.{Entry}
use Rattle.class_heap.specs.Marks.{holds_at_least, uses}
use Rattle.class_heap.proofs.marks.threshold.Given as goal

pub record IsBetween (entries : List Entry) (class needed top low high : ℕ) : Type 0 where
  pub ordered : low < high
  pub below : high ≤ top
  pub enough : needed ≤ count_by (holds_at_least class low) (uses entries)
  pub few : count_by (holds_at_least class high) (uses entries) < needed

abbrev pub invariant-halve : goal.invariant-halve
invariant-halve l = IsBetween l.entries l.class l.needed l.top l.low l.high

abbrev pub decreases-halve : goal.decreases-halve
decreases-halve l = l.high - l.low
