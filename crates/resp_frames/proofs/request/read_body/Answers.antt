use Rattle.resp_frames.proofs.Bulks.{body_short, body_returned}
use Rattle.resp_frames.proofs.request.read_body.Goals as goal

pub returns-then-bytes-len : goal.returns-then-bytes-len
returns-then-bytes-len c = body_short c.args.len c.args.bytes.now c.if-bytes-len.true

pub returns-then-bytes-len-2 : goal.returns-then-bytes-len-2
returns-then-bytes-len-2 c = body_returned c.args.len c.args.bytes.now c.if-bytes-len-2.true c.if-bytes-len-ne13.false
