use Rattle.std.proofs.Common.{◌≡◌, ◌≢◌, ◌≤◌, ◌-◌, ℕ, List, ◌∷◌, take, drop, length, get_or, arith, lit<, sym, subst}
use Rattle.std.proofs.lemmas.Bool.Decides.{nat_tests}
use Rattle.int_text.specs.Decimal.{IsI64Text}
use Rattle.int_text.proofs.Signed.{minus_none, minus_some, plain_large, first_split, no_first, no_difference, no_sum}
use Rattle.int_text.proofs.decimal.read_i64.Goals as goal
use Rattle.int_text.proofs.decimal.read_i64.Goals.{in_default-via-then-text-lt1, in_default-via-else-text-lt1+in_default-1}

-- what holds of no text that is a minus sign before these digits
with_minus : (text : List ℕ) → 1 ≤ length text → get_or text 0 0 ≡ 45 → ¬ (IsI64Text (45 ∷ take (length text - 1) (drop 1 text))) → ¬ (IsI64Text text)
with_minus text some first h = subst (λ t. ¬ (IsI64Text t)) (sym (first_split 45 text some first)) h

pub returns-in_err-magnitude-in-45-clause-none : goal.returns-in_err-magnitude-in-45-clause-none
returns-in_err-magnitude-in-45-clause-none c =
    rw c.from_residual.ensures
    (with_minus c.args.text.now c.in-45.len_at_least (omega arith) (minus_none _ c.in_err-magnitude-in-45.ensures.none))

pub returns-in-0-clause-none : goal.returns-in-0-clause-none
returns-in-0-clause-none c =
    with_minus c.args.text.now c.in-45.len_at_least (omega arith)
    (minus_some _ c.in_ok-magnitude-in-45.magnitude (omega arith) c.in_ok-magnitude-in-45.ensures.number (λ k small is. omega arith))

pub returns-in_default-2-clause-none : goal.returns-in_default-2-clause-none
returns-in_default-2-clause-none c =
    no_difference c.checked_sub_unsigned.result c.in_ok-magnitude-in-45.magnitude (omega arith) c.checked_sub_unsigned.ensures
    (λ out. with_minus c.args.text.now c.in-45.len_at_least (omega arith) (minus_some _ c.in_ok-magnitude-in-45.magnitude (omega arith) c.in_ok-magnitude-in-45.ensures.number out))

pub returns-in_ok-read_unsigned-in_default-clause-none : goal.returns-in_ok-read_unsigned-in_default-clause-none
returns-in_ok-read_unsigned-in_default-clause-none c =
    let plain : get_or c.args.text.now 0 0 ≢ 45 =
    elim c.in_default.branch [
      | in_default-via-then-text-lt1 w ↦ λ e. absurd (no_first 45 c.args.text.now (lit< tt) (grind (arith, nat_tests)) e)
      | in_default-via-else-text-lt1+in_default-1 w ↦ λ e. absurd (omega arith)
    ] in
    no_sum c.checked_add_unsigned.result c.in_ok-read_unsigned-in_default.field-0 c.checked_add_unsigned.ensures
    (λ large. plain_large c.args.text.now c.in_ok-read_unsigned-in_default.field-0 (omega arith) plain c.in_ok-read_unsigned-in_default.ensures.number large)
