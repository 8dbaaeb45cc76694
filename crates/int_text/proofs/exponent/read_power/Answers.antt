use Rattle.int_text.proofs.Exponents.{no_numeral}
use Rattle.int_text.proofs.exponent.read_power.Goals as goal

pub returns-then-digit_count-digits : goal.returns-then-digit_count-digits
returns-then-digit_count-digits c = no_numeral c.args.digits.now c.digit_count.result c.if-digit_count-digits.true c.digit_count.ensures.stops
