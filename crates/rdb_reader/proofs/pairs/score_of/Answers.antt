use Rattle.std.proofs.Common.{w64, SFits, Ok, Err, sym, ap, ◌∙◌, rules}
use Rattle.std.proofs.lemmas.Int.{to_z-of_z}
use Rattle.plain_world.proofs.ScoreTexts.{score_told}
use Rattle.rdb_grammar.specs.Payloads.{score_or, score_in}
use Rattle.rdb_reader.proofs.pairs.score_of.Goals as goal

pub returns-in-Ok-clause-score : goal.returns-in-Ok-clause-score
returns-in-Ok-clause-score c =
    let fits : SFits w64 c.in-Ok.score = search rules in
    rw (to_z-of_z w64 c.in-Ok.score fits) (ap score_in (sym c.text.ensures) ∙ ap score_or (score_told c.text.result.now (Ok c.in-Ok.score) c.in-Ok.ensures))

pub returns-in-Err-clause-fault : goal.returns-in-Err-clause-fault
returns-in-Err-clause-fault c = rw c.kind_of.ensures (ap score_in (sym c.text.ensures) ∙ ap score_or (score_told c.text.result.now (Err c.in-Err.fault) c.in-Err.ensures))
