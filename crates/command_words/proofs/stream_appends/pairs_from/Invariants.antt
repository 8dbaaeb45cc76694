use Rattle.std.proofs.Common.{◌≡◌, ◌+◌, ◌*◌, ◌++◌, drop}
use Rattle.plain_model.specs.StringWords.{pairs_of}
use Rattle.command_words.proofs.stream_appends.pairs_from.Given as goal

-- the list and the pairs of the words that are left are the pairs from the place on
abbrev pub invariant-loop-index : goal.invariant-loop-index
invariant-loop-index l = l.list ++ pairs_of (drop (l.from + 2 * l.index) l.request) ≡ pairs_of (drop l.from l.request)
