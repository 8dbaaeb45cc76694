use Rattle.std.proofs.Common.{◌≡◌, ◌+◌, ◌-◌, ◌*◌, ◌<◌, ◌≤◌, length, drop, get_or, arith, inl, inr, sym, ◌∙◌, ap, subst}
use Rattle.std.specs.Fmt.{decimal}
use Rattle.plain_world.proofs.Numerals.{read_on, grows, AreDigits}
use Rattle.resp_frames.proofs.Digits.{no_bytes, zero_is, no_zero, no_digit, no_more, digits_more, step_on, read_whole}
use Rattle.std.proofs.lemmas.List.{drop_all, take_all}
use Rattle.std.proofs.lemmas.Bool.Decides.{nat_tests}
use Rattle.resp_frames.proofs.number.small_number.Goals as goal

pub returns-then-is_empty-clause-none : goal.returns-then-is_empty-clause-none
returns-then-is_empty-clause-none c n le = no_bytes c.args.text.now n (omega arith) (grind (arith, nat_tests))

pub returns-then-text-eq1-clause-some : goal.returns-then-text-eq1-clause-some
returns-then-text-eq1-clause-some c = (omega arith, zero_is c.args.text.now c.if-text-eq48.true c.if-text-eq1.true)

pub returns-then-text-eq48-clause-none : goal.returns-then-text-eq48-clause-none
returns-then-text-eq48-clause-none c n le = no_zero c.args.text.now n (omega arith) c.if-text-eq48.true (grind (arith, nat_tests))

pub returns-then-b-lt48-clause-none : goal.returns-then-b-lt48-clause-none
returns-then-b-lt48-clause-none c n le = no_digit c.args.text.now n c.loop-b.b-index (omega arith) c.loop-b-test.true (inl c.if-b-lt48.true)

pub returns-then-b-gt57-clause-none : goal.returns-then-b-gt57-clause-none
returns-then-b-gt57-clause-none c n le = no_digit c.args.text.now n c.loop-b.b-index (omega arith) c.loop-b-test.true (inr c.if-b-gt57.true)

pub returns-then-n-most-clause-none : goal.returns-then-n-most-clause-none
returns-then-n-most-clause-none c n le =
    let i = c.loop-b.b-index in
    let ds = c.args.text.now in
    let m = c.loop-b.n * 10 + (get_or ds i 0 - 48) in
    let v : read_on m (drop (i + 1) ds) ≡ read_on 0 ds = sym (step_on c.loop-b.n ds i c.loop-b-test.true) ∙ c.loop-b.invariant.value in
    let over : c.args.most < m = omega arith in
    no_more ds n c.args.most le (omega arith) (omega (arith, grows m (drop (i + 1) ds), v))

pub loop-b-preserved : goal.loop-b-preserved
loop-b-preserved c =
    let i = c.loop-b.b-index in
    let ds = c.args.text.now in
    record {
      value = rw c.from.ensures (sym (step_on c.loop-b.n ds i c.loop-b-test.true) ∙ c.loop-b.invariant.value);
      digits = digits_more ds i c.loop-b-test.true c.loop-b.invariant.digits c.if-b-lt48.false c.if-b-gt57.false;
      small = omega arith;
    }

pub returns-clause-some : goal.returns-clause-some
returns-clause-some c =
    let ds = c.args.text.now in
    let all : length ds ≤ c.loop-b.b-index = omega arith in
    let v : c.loop-b.n ≡ read_on 0 ds = ap (read_on c.loop-b.n) (sym (drop_all c.loop-b.b-index ds all)) ∙ c.loop-b.invariant.value in
    let digits : AreDigits ds = subst AreDigits (take_all c.loop-b.b-index ds all) c.loop-b.invariant.digits in
    (c.loop-b.invariant.small, read_whole ds digits (grind (arith, nat_tests)) (λ e. absurd (c.if-text-eq48.false e)) (omega arith) ∙ ap decimal (sym v))
