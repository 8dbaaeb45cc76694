use Rattle.std.proofs.Common.{◌≡◌, ◌+◌, ◌*◌, ◌-◌, min, get_or, ap, ◌∙◌, arith}
use Rattle.int_text.proofs.Capped.{large, digit_range, capped_step}
use Rattle.int_text.proofs.digits.with_digits.Goals as goal

pub overflow_sub-digit : goal.overflow_sub-digit
overflow_sub-digit c = (digit_range c.args.digits.now c.loop-digit.digit-index c.requires.digits c.loop-digit-test.true).0

pub loop-digit-preserved : goal.loop-digit-preserved
loop-digit-preserved c =
    let ds = c.args.digits.now in
    let i = c.loop-digit.digit-index in
    let is : c.min-value.result ≡ min (c.loop-digit.value * 10 + (get_or ds i 0 - 48)) large = c.min-value.ensures ∙ ap (λ d. min (c.loop-digit.value * 10 + d) large) c.from.ensures in
    record {
      small = omega arith;
      value = rw is (capped_step ds i c.loop-digit.value c.args.number c.requires.digits c.loop-digit-test.true c.loop-digit.invariant.value);
    }
