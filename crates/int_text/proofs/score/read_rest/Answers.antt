use Rattle.std.proofs.Common.{◌≡◌, ◌≢◌, ◌++◌, ◌-◌, List, ℕ, length, take, drop, get_or, sym, subst, ap, ◌∙◌, lit<, arith}
use Rattle.std.proofs.lemmas.Bool.Decides.{nat_tests}
use Rattle.std.proofs.lemmas.List.{take_rest, take-append-drop}
use Rattle.int_text.specs.Digits.{StopsDigits}
use Rattle.int_text.specs.Parts.{IsNumberRead}
use Rattle.int_text.proofs.Signed.{first_split, no_first}
use Rattle.int_text.proofs.Numbers.{from_point, from_plain}
use Rattle.int_text.proofs.score.read_rest.Goals as goal
use Rattle.int_text.proofs.score.read_rest.Goals.{in_default-via-then-rest-lt1, in_default-via-else-rest-lt1+in_default-1}

pub returns-in-46 : goal.returns-in-46
returns-in-46 c =
    let rest = c.args.rest.now in
    let behind : List ℕ = take (length rest - 1) (drop 1 rest) in
    let n = c.digit_count-count.result in
    let tail : List ℕ = take (length behind - n) (drop n behind) in
    let same : tail ≡ drop n behind = take_rest behind n in
    let parts : behind ≡ take n behind ++ tail = sym (take-append-drop n behind) ∙ ap (λ l. take n behind ++ l) (sym same) in
    subst (λ l. IsNumberRead (c.args.whole.now ++ l) c.read_tail.result) (sym (first_split 46 rest c.in-46.len_at_least (omega arith)))
    (from_point c.args.whole.now (take n behind) tail behind c.requires.whole c.digit_count-count.ensures.digits (subst StopsDigits (sym same) c.digit_count-count.ensures.stops) parts
    c.read_tail.result c.read_tail.ensures)

pub returns-in_default : goal.returns-in_default
returns-in_default c =
    let other : get_or c.args.rest.now 0 0 ≢ 46 =
    elim c.in_default.branch [
      | in_default-via-then-rest-lt1 w ↦ no_first 46 c.args.rest.now (lit< tt) (grind (arith, nat_tests))
      | in_default-via-else-rest-lt1+in_default-1 w ↦ λ e. omega arith
    ] in
    from_plain c.args.whole.now c.args.rest.now c.requires.whole c.requires.stops other c.read_tail-in_default.result c.read_tail-in_default.ensures
