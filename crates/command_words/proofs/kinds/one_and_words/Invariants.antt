use Rattle.std.proofs.Common.{◌≡◌, ◌++◌, drop}
use Rattle.command_words.proofs.kinds.one_and_words.Given as goal

-- the list and the words that are left are the words from the place on
abbrev pub invariant-loop-index : goal.invariant-loop-index
invariant-loop-index l = l.list ++ drop l.index l.request ≡ drop 2 l.request
