use Rattle.std.proofs.Common.{◌≡◌, take}
use Rattle.written_keys.specs.Written.{asked_at}
use Rattle.written_keys.proofs.placing.asked.Given as goal

abbrev pub invariant-loop-one : goal.invariant-loop-one
invariant-loop-one l = l.list.items ≡ asked_at l.db (take l.one-index l.read)
