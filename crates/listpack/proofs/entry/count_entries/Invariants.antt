use Rattle.std.proofs.Common.{◌≡◌, ℕ, ◌+◌, ◌≤◌, List, length}
use Rattle.listpack.specs.Pack.{Begins}
use Rattle.listpack.proofs.entry.count_entries.Given as goal

-- so many entries were split off, and each took a byte at least
abbrev pub invariant-loop-rest : goal.invariant-loop-rest
invariant-loop-rest l = ((spellings : List (List ℕ)) × Begins l.region spellings l.rest × (l.count ≡ length spellings)) × (l.count + length l.rest ≤ length l.region)

abbrev pub decreases-loop-rest : goal.decreases-loop-rest
decreases-loop-rest l = length l.rest
