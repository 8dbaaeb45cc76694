use Rattle.std.proofs.Common.{◌∙◌, ap, arith, length, max, ℕ}
use Rattle.set_object.proofs.Placing.{numbers_more, numbers_stay}
use Rattle.set_object.proofs.adding.form_of_numbers.Goals as goal

pub returns-then-len-limits : goal.returns-then-len-limits
returns-then-len-limits c =
    numbers_stay c.args.limits.now c.args.len c.args.bytes.now c.args.member.now c.requires.numbers c.requires.absent c.is_number-number.result c.is_number-number.ensures c.if-number.true
    (omega (arith, c.if-len-limits.true))

pub returns : goal.returns
returns c =
    numbers_more c.args.limits.now c.args.len c.args.bytes.now c.args.member.now c.requires.numbers c.requires.absent c.is_number-number.result c.is_number-number.ensures c.max-most.result
    c.set_form.result
    (c.max-most.ensures ∙ ap (λ (a : ℕ). max a (length c.args.member.now)) c.longest_number.ensures) c.set_form.ensures
