use Rattle.std.proofs.Common.{◌≡◌, ◌-◌, ◌≤◌, ℕ, List, length, drop}
use Rattle.std.specs.Prelude.{ℤ}
use Rattle.plain_model.specs.ZsetWords.{scores_read}
use Rattle.command_words.proofs.AddWords.{behind_pairs}
use Rattle.command_words.proofs.zset_scores.check_scores.Given as goal

-- some pairs stand in front of what the words that are left are
abbrev pub invariant-loop-index : goal.invariant-loop-index
invariant-loop-index l = ((pairs : List (ℤ × List ℕ)) × (scores_read (drop l.from l.request) ≡ behind_pairs pairs (drop l.index l.request))) × (l.index ≤ length l.request)

abbrev pub decreases-loop-index : goal.decreases-loop-index
decreases-loop-index l = length l.request - l.index
