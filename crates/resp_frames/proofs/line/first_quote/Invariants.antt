use Rattle.std.proofs.Common.{take}
use Rattle.resp_frames.specs.Frames.{IsUnquoted}
use Rattle.resp_frames.proofs.line.first_quote.Given as goal

abbrev pub invariant-loop-i : goal.invariant-loop-i
invariant-loop-i l = IsUnquoted (take l.i l.text)
