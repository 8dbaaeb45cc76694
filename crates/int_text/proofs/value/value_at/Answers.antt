use Rattle.std.proofs.Common.{◌≡◌, min, refl, arith}
use Rattle.int_text.specs.Places.{kept, IsNothingBehind}
use Rattle.int_text.proofs.Capped.{large}
use Rattle.int_text.proofs.Parts.{digits_take, digits_rest, kept_number, nothing_behind}
use Rattle.int_text.proofs.value.value_at.Goals as goal

pub are_zeros-requires : goal.are_zeros-requires
are_zeros-requires c = digits_rest c.args.whole.now c.min-whole_kept.result c.requires.whole

pub are_zeros-requires-2 : goal.are_zeros-requires-2
are_zeros-requires-2 c = digits_rest c.args.fraction.now c.min-fraction_kept.result c.requires.fraction

pub with_digits-start-requires-clause-digits : goal.with_digits-start-requires-clause-digits
with_digits-start-requires-clause-digits c = digits_take c.min-whole_kept.result c.args.whole.now c.requires.whole

pub with_digits-digits-requires-clause-digits : goal.with_digits-digits-requires-clause-digits
with_digits-digits-requires-clause-digits c = digits_take c.min-fraction_kept.result c.args.fraction.now c.requires.fraction

pub returns-then-number-gt-MOST : goal.returns-then-number-gt-MOST
returns-then-number-gt-MOST c =
    let W = c.args.whole.now in
    let F = c.args.fraction.now in
    let wk = c.min-whole_kept in
    let fk = c.min-fraction_kept in
    let start = c.with_digits-start in
    let digits = c.with_digits-digits in
    let number = c.with_zeros-number in
    let is : number.result ≡ min (kept W F c.args.before) large =
    kept_number W F c.args.before wk.result fk.result start.result digits.result number.result wk.ensures fk.ensures start.ensures digits.ensures number.ensures in
    let none : IsNothingBehind W F c.args.before =
    nothing_behind W F c.args.before wk.result fk.result wk.ensures fk.ensures (c.if-not-are_zeros.ensures.0 refl) (c.if-not-are_zeros-2.ensures.0 refl) in
    (none, omega (arith, is))

pub returns : goal.returns
returns c =
    let W = c.args.whole.now in
    let F = c.args.fraction.now in
    let wk = c.min-whole_kept in
    let fk = c.min-fraction_kept in
    let start = c.with_digits-start in
    let digits = c.with_digits-digits in
    let number = c.with_zeros-number in
    let is : number.result ≡ min (kept W F c.args.before) large =
    kept_number W F c.args.before wk.result fk.result start.result digits.result number.result wk.ensures fk.ensures start.ensures digits.ensures number.ensures in
    let none : IsNothingBehind W F c.args.before =
    nothing_behind W F c.args.before wk.result fk.result wk.ensures fk.ensures (c.if-not-are_zeros.ensures.0 refl) (c.if-not-are_zeros-2.ensures.0 refl) in
    (none, omega (arith, is), c.if-number-gt-MOST.false)
