use Rattle.std.proofs.Common.{◌≡◌, ◌≤◌, drop, min}
use Rattle.std.specs.Str.Parse.{digits_value_after}
use Rattle.int_text.proofs.digits.with_digits.Given as goal

abbrev pub invariant-loop-digit : goal.invariant-loop-digit
invariant-loop-digit l = record {
  small : l.value ≤ 100000000000000000;
  value : min (digits_value_after 10 l.value (drop l.digit-index l.digits)) 100000000000000000 ≡ min (digits_value_after 10 l.fn.number l.digits) 100000000000000000;
}
