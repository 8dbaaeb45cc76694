use Rattle.std.proofs.Common.{◌≡◌, ◌+◌, ◌*◌, ◌++◌, drop}
use Rattle.plain_model.specs.StringWords.{pairs_of}
use Rattle.command_words.proofs.kinds.pairs.Given as goal

-- the list and the pairs of the words that are left are the pairs from the place on
abbrev pub invariant-loop-index : goal.invariant-loop-index
invariant-loop-index l = l.list ++ pairs_of (drop (2 * l.index + 1) l.request) ≡ pairs_of (drop 1 l.request)
