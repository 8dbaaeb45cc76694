use Rattle.std.proofs.Common.{ℕ, ◌+◌, ◌<◌}
use Rattle.pack_pairs.proofs.Distinct.{DifferAt}
use Rattle.pack_pairs.proofs.once.neighbours_differ.Given as goal

abbrev pub invariant-loop-later : goal.invariant-loop-later
invariant-loop-later l = (k : ℕ) → k + 1 < l.later → DifferAt l.parts k (k + 1)
