use Rattle.std.proofs.Common.{arith}
use Rattle.std.proofs.lemmas.Bool.Decides.{nat_tests}
use Rattle.resp_frames.proofs.HeaderSteps.{after_mark, nothing_there, other_there}
use Rattle.resp_frames.proofs.header.read_header.Goals as goal

pub returns-then-is_empty : goal.returns-then-is_empty
returns-then-is_empty c = nothing_there c.args.mark c.args.bytes.now (grind (arith, nat_tests))

pub returns-then-bytes-mark : goal.returns-then-bytes-mark
returns-then-bytes-mark c = other_there c.args.mark c.args.bytes.now (grind (arith, nat_tests)) c.if-bytes-mark.true

pub returns : goal.returns
returns c = after_mark c.args.mark c.args.bytes.now c.read_text.result (grind (arith, nat_tests)) c.if-bytes-mark.false c.read_text.ensures
