use Rattle.std.proofs.Common.{◌≡◌, ◌-◌, ◌≤◌, None, length, drop}
use Rattle.plain_model.specs.StreamWords.{streams_read}
use Rattle.command_words.proofs.stream_reads.streams.Given as goal

-- the words that are left say what all do, beside the limit so far
abbrev pub invariant-loop-index : goal.invariant-loop-index
invariant-loop-index l = (streams_read l.sign None (drop l.from l.request) ≡ streams_read l.sign l.limit (drop l.index l.request)) × (l.index ≤ length l.request)

abbrev pub decreases-loop-index : goal.decreases-loop-index
decreases-loop-index l = length l.request - l.index
