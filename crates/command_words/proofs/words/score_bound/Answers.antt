use Rattle.std.proofs.Common.{◌≢◌, get_or, sym, subst, lit<, arith}
use Rattle.std.proofs.lemmas.Bool.Decides.{nat_tests}
use Rattle.int_text.proofs.Signed.{no_first}
use Rattle.command_words.specs.Readings.{Tells}
use Rattle.command_words.proofs.ScoreBounds.{bound_included}
use Rattle.command_words.proofs.words.score_bound.Goals as goal
use Rattle.command_words.proofs.words.score_bound.Goals.{in_default-via-then-text-lt1, in_default-via-else-text-lt1+in_default-1}

pub returns-in_default : goal.returns-in_default
returns-in_default c =
    let text = c.args.text.now in
    let other : get_or text 0 0 ≢ 40 =
    elim c.in_default.branch [
      | in_default-via-then-text-lt1 w ↦ no_first 40 text (lit< tt) (grind (arith, nat_tests))
      | in_default-via-else-text-lt1+in_default-1 w ↦ λ e. omega arith
    ] in
    subst (λ m. Tells m c.score_included.result) (sym (bound_included text other)) c.score_included.ensures
