use Rattle.std.proofs.Common.{◌∙◌, w64, Ok, Err, ap, rules, SFits}
use Rattle.std.proofs.lemmas.Int.{to_z-of_z}
use Rattle.plain_model.specs.Shapes.{score}
use Rattle.plain_world.proofs.ScoreTexts.{score_told}
use Rattle.command_words.proofs.words.score_text.Goals as goal

pub returns-in-Ok : goal.returns-in-Ok
returns-in-Ok c =
    let fits : SFits w64 c.in-Ok.n = search rules in
    rw (to_z-of_z w64 c.in-Ok.n fits) (ap score (score_told c.args.text.now (Ok c.in-Ok.n) c.in-Ok.ensures))

pub returns-in-Err : goal.returns-in-Err
returns-in-Err c = ap score (score_told c.args.text.now (Err c.in-Err.fault) c.in-Err.ensures) ∙ c.no_score.ensures
