use Rattle.std.proofs.Common.{◌≡◌, take}
use Rattle.written_keys.specs.Written.{each_at}
use Rattle.written_keys.proofs.placing.each.Given as goal

abbrev pub invariant-loop-word : goal.invariant-loop-word
invariant-loop-word l = l.list.items ≡ each_at l.db (take l.word-index l.words)
