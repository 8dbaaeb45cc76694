use Rattle.std.proofs.Common.{inl, ◌∙◌, ap, decimal}
use Rattle.plain_world.proofs.Numerals.{zero_text}
use Rattle.resp_frames.proofs.Digits.{no_count}
use Rattle.resp_frames.proofs.number.read_count.Goals as goal

pub returns-in-Some-eq0 : goal.returns-in-Some-eq0
returns-in-Some-eq0 c =
    let e = c.in-Some-eq0.ensures.some in
    inl (e.1 ∙ ap decimal c.in-Some-eq0.field-0-test ∙ zero_text)

pub returns-else-is_negative : goal.returns-else-is_negative
returns-else-is_negative c = no_count c.args.text.now (λ h. cc) c.in-None.ensures.none
