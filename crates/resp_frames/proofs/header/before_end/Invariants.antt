use Rattle.std.proofs.Common.{take}
use Rattle.resp_frames.specs.Frames.{IsWithout}
use Rattle.resp_frames.proofs.header.before_end.Given as goal

abbrev pub invariant-loop-i : goal.invariant-loop-i
invariant-loop-i l = IsWithout l.end (take l.i l.bytes)
