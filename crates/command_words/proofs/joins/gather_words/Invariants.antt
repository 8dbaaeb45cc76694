use Rattle.std.proofs.Common.{◌≡◌, take, drop}
use Rattle.command_words.proofs.joins.gather_words.Given as goal

-- the list is so many words from the place on
abbrev pub invariant-loop-index : goal.invariant-loop-index
invariant-loop-index l = l.list ≡ take l.index (drop l.from l.request)
