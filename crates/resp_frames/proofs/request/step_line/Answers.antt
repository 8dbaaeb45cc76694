use Rattle.std.proofs.Common.{arith}
use Rattle.std.proofs.lemmas.Bool.Decides.{nat_tests}
use Rattle.resp_frames.proofs.LineSteps.{open_line, broken_line, request_line, passed_line}
use Rattle.resp_frames.proofs.request.step_line.Goals as goal

pub returns-in-Open : goal.returns-in-Open
returns-in-Open c = open_line c.args.bytes.now c.args.scanned c.in-Open.text c.args.spans.now.items c.requires c.in-Open.ensures

pub returns-in-Broken : goal.returns-in-Broken
returns-in-Broken c = broken_line c.args.bytes.now c.args.scanned c.in-Broken.rule c.in-Broken.at c.args.spans.now.items c.requires c.in-Broken.ensures

pub returns-then-is_empty : goal.returns-then-is_empty
returns-then-is_empty c =
    passed_line c.args.bytes.now c.args.scanned c.in-Text.text c.args.spans.now.items c.push_words.new.spans.items c.requires c.in-Text.ensures
    (rw c.without_return.ensures at c.in_ok-push_words-in-Text.ensures) (grind (arith, nat_tests))

pub returns-else-is_empty : goal.returns-else-is_empty
returns-else-is_empty c =
    request_line c.args.bytes.now c.args.scanned c.in-Text.text c.args.spans.now.items c.push_words.new.spans.items c.requires c.in-Text.ensures
    (rw c.without_return.ensures at c.in_ok-push_words-in-Text.ensures) (grind (arith, nat_tests))
