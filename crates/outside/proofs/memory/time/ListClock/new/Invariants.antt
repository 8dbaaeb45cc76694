use Rattle.std.proofs.Common.{◌≡◌, take}
use Rattle.outside.specs.Clocks.{last_or}
use Rattle.outside.proofs.memory.time.ListClock.new.Given as goal

abbrev pub invariant-loop-answer : goal.invariant-loop-answer
invariant-loop-answer l = l.after ≡ last_or 0 (take l.answer-index l.answer-items)
