use Rattle.std.proofs.Common.{w64, sym, ◌∙◌, rules, SFits}
use Rattle.std.proofs.lemmas.Int.{to_z-of_z}
use Rattle.command_words.proofs.Told.{number_told}
use Rattle.command_words.proofs.words.number.Goals as goal

pub returns-in-Some : goal.returns-in-Some
returns-in-Some c =
    let fits : SFits w64 c.in-Some.n = search rules in
    rw (to_z-of_z w64 c.in-Some.n fits) (number_told _ c.in-Some.n fits (sym c.word.ensures ∙ c.in-Some.ensures.number))
