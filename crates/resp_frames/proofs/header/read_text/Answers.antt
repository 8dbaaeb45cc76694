use Rattle.resp_frames.proofs.HeaderSteps.{endless, no_line_end}
use Rattle.resp_frames.proofs.header.read_text.Goals as goal

pub returns-then-text-eq-LONGEST_HEADER : goal.returns-then-text-eq-LONGEST_HEADER
returns-then-text-eq-LONGEST_HEADER c =
    let e = c.before_end-text.ensures in
    endless c.args.bytes.now c.before_end-text.result (record { within = e.within; few = e.few; plain = e.plain; found = e.found }) c.if-text-eq-LONGEST_HEADER.true

pub returns-then-bytes-text-ne10 : goal.returns-then-bytes-text-ne10
returns-then-bytes-text-ne10 c =
    let e = c.before_end-text.ensures in
    no_line_end c.args.bytes.now c.before_end-text.result (record { within = e.within; few = e.few; plain = e.plain; found = e.found }) c.if-text-eq-LONGEST_HEADER.false
    c.if-text-bytes.false c.if-bytes-text-ne10.true
