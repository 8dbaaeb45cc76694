use Rattle.std.proofs.Common.{◌∙◌}
use Rattle.int_text.proofs.Capped.{capped_place, capped_end}
use Rattle.int_text.proofs.digits.with_zeros.Goals as goal

pub loop-place-preserved : goal.loop-place-preserved
loop-place-preserved c = record {
  value = c.min-value.ensures ∙ capped_place c.loop-place.value c.args.number c.loop-place._place c.loop-place.invariant.value;
}

pub returns : goal.returns
returns c = capped_end c.loop-place.value c.args.number c.args.count c.loop-place._place c.min-place-end.result c.loop-place.invariant.value c.min-place-end.ensures
    c.loop-place.auto._place-end c.loop-place-test.false
