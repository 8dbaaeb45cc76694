use Rattle.resp_frames.proofs.Wholes.{IsNumberSoFar}
use Rattle.resp_frames.proofs.whole.number_line.Given as goal

abbrev pub invariant-loop-i : goal.invariant-loop-i
invariant-loop-i l = IsNumberSoFar l.most l.bytes l.number l.i
