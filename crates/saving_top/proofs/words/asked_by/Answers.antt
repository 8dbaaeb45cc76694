use Rattle.std.proofs.Common.{ap, ◌∙◌}
use Rattle.std.specs.Prelude.{option_map}
use Rattle.clap.specs.Matches.{found_of}
use Rattle.clap.specs.Walk.{first_of, rows_of}
use Rattle.clap.proofs.WalkLemmas.{first_value-rows}
use Rattle.program_top.specs.WordsRead.{given_read}
use Rattle.saving_top.specs.Asked.{is_flagged, maybe_closed, save}
use Rattle.saving_top.proofs.words.asked_by.Goals as goal

pub returns-clause-asked : goal.returns-clause-asked
returns-clause-asked c =
    let rows = rows_of (found_of c.args.matches.now) in
    c.maybe_closed.ensures.asked
    ∙ ap (λ b. maybe_closed b (option_map (λ s. s.now) c.get_str.result) (given_read c.given_by.result)) c.is_flagged.ensures
    ∙ ap (λ o. maybe_closed (is_flagged rows) o (given_read c.given_by.result)) (c.get_str.ensures ∙ first_value-rows (found_of c.args.matches.now) save)
    ∙ ap (maybe_closed (is_flagged rows) (first_of save rows)) c.given_by.ensures.given
