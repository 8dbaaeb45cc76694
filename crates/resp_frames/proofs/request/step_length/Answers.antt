use Rattle.resp_frames.proofs.RequestSteps.{other_length, open_length, broken_length, bad_length}
use Rattle.resp_frames.proofs.request.step_length.Goals as goal

pub returns-in-Other : goal.returns-in-Other
returns-in-Other c = other_length c.args.bytes.now c.args.read c.args.words c.args.scanned c.args.spans.now.items c.requires c.in-Other.ensures

pub returns-in-Open : goal.returns-in-Open
returns-in-Open c = open_length c.args.bytes.now c.args.read c.args.words c.args.scanned c.in-Open.text c.args.spans.now.items c.requires c.in-Open.ensures

pub returns-in-Broken : goal.returns-in-Broken
returns-in-Broken c = broken_length c.args.bytes.now c.args.read c.args.words c.args.scanned c.in-Broken.rule c.in-Broken.at c.args.spans.now.items c.requires c.in-Broken.ensures

pub returns-in-None : goal.returns-in-None
returns-in-None c = bad_length c.args.bytes.now c.args.read c.args.words c.args.scanned c.in-Text.text c.args.spans.now.items c.requires c.in-Text.ensures c.in-None.ensures.none
