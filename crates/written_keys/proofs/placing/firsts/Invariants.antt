use Rattle.std.proofs.Common.{◌≡◌, take}
use Rattle.written_keys.specs.Written.{firsts_at}
use Rattle.written_keys.proofs.placing.firsts.Given as goal

abbrev pub invariant-loop-pair : goal.invariant-loop-pair
invariant-loop-pair l = l.list.items ≡ firsts_at l.db (take l.pair-index l.pairs)
