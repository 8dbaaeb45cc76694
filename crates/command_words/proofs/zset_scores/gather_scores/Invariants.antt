use Rattle.std.proofs.Common.{◌≡◌, ◌-◌, ◌≤◌, length, drop}
use Rattle.plain_model.specs.ZsetWords.{scores_read}
use Rattle.command_words.proofs.AddWords.{behind_pairs}
use Rattle.command_words.proofs.zset_scores.gather_scores.Given as goal

-- the list stands in front of what the words that are left are
abbrev pub invariant-loop-index : goal.invariant-loop-index
invariant-loop-index l = (scores_read (drop l.from l.request) ≡ behind_pairs l.list (drop l.index l.request)) × (l.index ≤ length l.request)

abbrev pub decreases-loop-index : goal.decreases-loop-index
decreases-loop-index l = length l.request - l.index
