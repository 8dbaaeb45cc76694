use Rattle.std.proofs.Common.{◌≡◌, ◌+◌, ◌-◌, ◌≤◌, length, drop}
use Rattle.plain_model.specs.StreamWords.{append_options, no_append_options}
use Rattle.command_words.proofs.stream_appends.append_options.Given as goal

-- the options so far, and then those that are left, say what all of them do
abbrev pub invariant-loop-index : goal.invariant-loop-index
invariant-loop-index l = (append_options l.options 0 (drop l.index l.request) ≡ append_options no_append_options 0 (drop 2 l.request)) × (l.index ≤ length l.request + 2)

abbrev pub decreases-loop-index : goal.decreases-loop-index
decreases-loop-index l = length l.request - l.index
