use Rattle.std.proofs.Common.{take}
use Rattle.resp_frames.specs.LineRead.{IsWithoutBlank}
use Rattle.resp_frames.proofs.line.before_blank.Given as goal

abbrev pub invariant-loop-i : goal.invariant-loop-i
invariant-loop-i l = IsWithoutBlank (take l.i l.bytes)
