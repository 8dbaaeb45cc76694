use Rattle.std.proofs.Common.{arith, ◌≡◌, ◌+◌, ◌*◌, ◌≤◌, ◌^◌, [], drop, get_or, sym, subst, ap, ◌∙◌}
use Rattle.std.specs.Char.{digit_value}
use Rattle.std.specs.Str.Parse.{AllDigits, digits_value, digits_value_after}
use Rattle.std.proofs.lemmas.List.{drop_all}
use Rattle.int_text.proofs.Numerals.{too_large}
use Rattle.int_text.proofs.decimal.read_u64.Goals as goal

pub returns-in_err-checked_mul : goal.returns-in_err-checked_mul
returns-in_err-checked_mul c =
    let out = c.in_err-checked_mul.ensures in
    let large : 2 ^ 64 ≤ c.loop-byte.number * 10 + digit_value (get_or c.args.text.now c.loop-byte.byte-index 0) = omega arith in
    rw c.from_residual-in_err-checked_mul.ensures (too_large c.args.text.now c.loop-byte.byte-index c.loop-byte.number c.loop-byte-test.true c.loop-byte.invariant.value large)

pub returns-in_err-number : goal.returns-in_err-number
returns-in_err-number c =
    let out = c.in_err-number.ensures in
    let one = c.in_ok-digit.ensures in
    let before = c.in_ok-checked_mul.ensures in
    let large : 2 ^ 64 ≤ c.loop-byte.number * 10 + digit_value (get_or c.args.text.now c.loop-byte.byte-index 0) = omega arith in
    rw c.from_residual-in_err-number.ensures (too_large c.args.text.now c.loop-byte.byte-index c.loop-byte.number c.loop-byte-test.true c.loop-byte.invariant.value large)

pub returns : goal.returns
returns c =
    let text = c.args.text.now in
    let rest : drop c.loop-byte.byte-index text ≡ [] = drop_all c.loop-byte.byte-index text c.loop-byte-test.false in
    let value : c.loop-byte.number ≡ digits_value 10 text = ap (digits_value_after 10 c.loop-byte.number) (sym rest) ∙ c.loop-byte.invariant.value in
    let digits : AllDigits 10 text = c.loop-byte.invariant.digits.1 (subst (AllDigits 10) (sym rest) tt) in
    (((c.loop-byte.invariant.some, digits), omega arith), value)
