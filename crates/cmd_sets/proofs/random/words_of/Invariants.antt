use Rattle.std.proofs.Common.{◌≡◌, take}
use Rattle.cmd_sets.proofs.random.words_of.Given as goal

abbrev pub invariant-loop-name : goal.invariant-loop-name
invariant-loop-name l = l.words.items ≡ take l.name-index l.names
