use Rattle.std.proofs.Common.{◌≡◌, ◌<◌, ℕ, true, get_or, arith}
use Rattle.std.specs.Prelude.{Option, Some, None, SomeIff, is_some}
use Rattle.std.specs.Char.{digit_value}
use Rattle.std.proofs.lemmas.Int.Digits.{digits_more}
use Rattle.int_text.proofs.digits.digit_count.Goals as goal

is_digit_of : (r : Option ℕ) (c : ℕ) → SomeIff r (digit_value c < 10) (digit_value c) → is_some r ≡ true → digit_value c < 10
is_digit_of (Some d) c h some = h.0
is_digit_of None c h some = cc

pub loop-count-preserved : goal.loop-count-preserved
loop-count-preserved c =
    record {
      room = omega arith;
      digits = digits_more 10 c.args.text.now c.loop-count.count c.loop-count-test.true c.loop-count.invariant.digits
          (is_digit_of c.digit_of.result (get_or c.args.text.now c.loop-count.count 0) c.digit_of.ensures c.if-is_none.ensures);
    }
