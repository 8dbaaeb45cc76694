use Rattle.std.proofs.Common.{refl, inl}
use Rattle.resp_frames.proofs.LineSteps.{endless_line}
use Rattle.resp_frames.proofs.line.read_line.Goals as goal

pub returns-then-text-gt-LONGEST_LINE : goal.returns-then-text-gt-LONGEST_LINE
returns-then-text-gt-LONGEST_LINE c =
    let e = c.before_end-text.ensures in
    inl (refl, refl, endless_line c.args.bytes.now c.before_end-text.result e.within e.few e.plain c.if-text-gt-LONGEST_LINE.true)
