use Rattle.std.proofs.Common.{◌≡◌, ◌+◌, ◌-◌, ◌≤◌, length, drop}
use Rattle.plain_model.specs.StreamWords.{behind_options}
use Rattle.command_words.proofs.stream_appends.id_place.Given as goal

-- what stands behind the options that are left stands behind all of them
abbrev pub invariant-loop-index : goal.invariant-loop-index
invariant-loop-index l = (behind_options 0 (drop l.index l.request) ≡ behind_options 0 (drop 2 l.request)) × (l.index ≤ length l.request + 2)

abbrev pub decreases-loop-index : goal.decreases-loop-index
decreases-loop-index l = length l.request - l.index
