use Rattle.std.proofs.Common.{◌≡◌, ◌+◌, length, drop}
use Rattle.std.specs.Prelude.{sum_by}
use Rattle.command_words.proofs.stream_appends.is_long.Given as goal

-- what is left of the greatest length is what the words that were passed have left
abbrev pub invariant-loop-index : goal.invariant-loop-index
invariant-loop-index l = sum_by length (drop l.from l.request) + l.left ≡ 524288000 + sum_by length (drop l.index l.request)
