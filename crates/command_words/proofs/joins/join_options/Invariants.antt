use Rattle.std.proofs.Common.{◌≡◌, ◌≤◌, ◌-◌, List, Ok, length, drop}
use Rattle.std.specs.Prelude.{ℤ}
use Rattle.plain_model.specs.Shapes.{options_read}
use Rattle.plain_model.specs.ZsetWords.{join_options}
use Rattle.command_words.specs.Joins.{all_join_options, weights_at}
use Rattle.command_words.proofs.joins.join_options.Given as goal

-- the options so far, and then the words that are left, say what all of them do
abbrev pub invariant-loop-index : goal.invariant-loop-index
invariant-loop-index l = (own : List ℤ) × (weights_at l.request l.count l.options.weights ≡ Ok own)
    × (all_join_options l.count (drop l.from l.request) ≡ options_read (join_options l.count) (own, l.options.aggregate) 0 (drop l.index l.request)) × (l.index ≤ length l.request)

abbrev pub decreases-loop-index : goal.decreases-loop-index
decreases-loop-index l = length l.request - l.index
