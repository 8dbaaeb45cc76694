use Rattle.std.proofs.Common.{ℕ, ◌<◌, ◌≤◌, ◌-◌}
use Rattle.blocks.specs.Slabs.{size_of}
use Rattle.class_heap.proofs.class.class_of.Given as goal

pub record IsNarrowed (len low high : ℕ) : Type 0 where
  pub ordered : low ≤ high
  pub within : high ≤ 36
  pub below : (k : ℕ) → k < low → size_of k < len
  pub holds : high < 36 → len ≤ size_of high

abbrev pub invariant-halve : goal.invariant-halve
invariant-halve l = IsNarrowed l.len l.low l.high

abbrev pub decreases-halve : goal.decreases-halve
decreases-halve l = l.high - l.low
