use Rattle.std.proofs.Common.{◌≡◌, List, Ok, drop}
use Rattle.std.specs.Prelude.{ℤ}
use Rattle.command_words.specs.Joins.{scores_at}
use Rattle.command_words.proofs.joins.check_weights.Given as goal

-- the words so far are scores
abbrev pub invariant-loop-index : goal.invariant-loop-index
invariant-loop-index l = (own : List ℤ) × (scores_at l.index (drop l.from l.request) ≡ Ok own)
