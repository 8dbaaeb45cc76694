use Rattle.std.proofs.Common.{◌≡◌, ℕ, ◌<◌, ◌≤◌, []}
use Rattle.rehash_dict.specs.Tables.{bucket}
use Rattle.rehash_dict.proofs.tables.first_full.Given as goal

abbrev pub invariant-loop-at : goal.invariant-loop-at
invariant-loop-at g l = (k : ℕ) → l.position ≤ k → k < l.at → bucket l.chains.older k ≡ []
