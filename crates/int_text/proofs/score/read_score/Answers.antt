use Rattle.std.proofs.Common.{[], ◌∷◌, refl, sym, subst, lit<, arith}
use Rattle.std.proofs.lemmas.Bool.Decides.{nat_tests}
use Rattle.int_text.specs.Score.{no_sign, plus, minus, IsScoreOf}
use Rattle.int_text.proofs.Signed.{first_split, no_first}
use Rattle.int_text.proofs.Scores.{IsUnsigned, behind_minus, behind_plus, behind_none, from_signed}
use Rattle.int_text.proofs.score.read_score.Goals as goal
use Rattle.int_text.proofs.score.read_score.Goals.{in_default-via-then-text-lt1, in_default-via-else-text-lt1+in_default-1}

pub returns-in-45 : goal.returns-in-45
returns-in-45 c =
    subst (λ t. IsScoreOf t c.read_signed.result) (sym (first_split 45 c.args.text.now c.in-45.len_at_least (omega arith)))
    (from_signed _ (45 ∷ []) _ _ refl minus (behind_minus _) c.read_signed.result c.read_signed.ensures)

pub returns-in-43 : goal.returns-in-43
returns-in-43 c =
    subst (λ t. IsScoreOf t c.read_signed-in-43.result) (sym (first_split 43 c.args.text.now c.in-43.len_at_least (omega arith)))
    (from_signed _ (43 ∷ []) _ _ refl plus (behind_plus _) c.read_signed-in-43.result c.read_signed-in-43.ensures)

pub returns-in_default : goal.returns-in_default
returns-in_default c =
    let text = c.args.text.now in
    let unsigned : IsUnsigned text =
    elim c.in_default.branch [
      | in_default-via-then-text-lt1 w ↦ record { no_plus = no_first 43 text (lit< tt) (grind (arith, nat_tests)); no_minus = no_first 45 text (lit< tt) (grind (arith, nat_tests)) }
      | in_default-via-else-text-lt1+in_default-1 w ↦ record { no_plus = λ e. omega arith; no_minus = λ e. omega arith }
    ] in
    from_signed text [] text _ refl no_sign (behind_none text unsigned) c.read_signed-in_default.result c.read_signed-in_default.ensures
