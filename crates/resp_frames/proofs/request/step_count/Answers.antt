use Rattle.resp_frames.proofs.RequestSteps.{open_count, broken_count, wrong_count}
use Rattle.resp_frames.proofs.BodySteps.{passed_header}
use Rattle.resp_frames.proofs.request.step_count.Goals as goal

pub returns-in-Open : goal.returns-in-Open
returns-in-Open c = open_count c.args.bytes.now c.args.scanned c.in-Open.text c.args.spans.now.items c.requires c.in-Open.ensures

pub returns-in-Broken : goal.returns-in-Broken
returns-in-Broken c = broken_count c.args.bytes.now c.in-Broken.rule c.in-Broken.at c.in-Broken.ensures

pub returns-in-Wrong : goal.returns-in-Wrong
returns-in-Wrong c = wrong_count c.args.bytes.now c.in-Text.text c.in-Text.ensures c.in-Wrong.ensures

pub returns-in-Passed : goal.returns-in-Passed
returns-in-Passed c = passed_header c.args.bytes.now c.args.scanned c.in-Text.text c.args.spans.now.items c.requires c.in-Text.ensures c.in-Passed.ensures
