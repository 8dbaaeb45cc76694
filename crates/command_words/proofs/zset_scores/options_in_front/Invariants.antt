use Rattle.std.proofs.Common.{◌≡◌, ◌+◌, ◌-◌, ◌≤◌, length, drop}
use Rattle.plain_model.specs.ZsetWords.{options_in_front}
use Rattle.command_words.specs.Readings.{front_options}
use Rattle.command_words.proofs.AddWords.{front_says}
use Rattle.command_words.proofs.zset_scores.options_in_front.Given as goal

-- the options so far, and then those that are left, say what all of them do; so many were passed over
abbrev pub invariant-loop-index : goal.invariant-loop-index
invariant-loop-index l = (front_says l.options (drop l.index l.request) ≡ front_options (drop 2 l.request))
    × (options_in_front (drop l.index l.request) + l.index ≡ options_in_front (drop 2 l.request) + 2) × (l.index ≤ length l.request)

abbrev pub decreases-loop-index : goal.decreases-loop-index
decreases-loop-index l = length l.request - l.index
