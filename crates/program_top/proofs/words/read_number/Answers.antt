use Rattle.std.proofs.Common.{sym, ap, ◌∙◌}
use Rattle.std.specs.Prelude.{option_map}
use Rattle.clap.specs.Matches.{found_of}
use Rattle.clap.specs.Walk.{rows_of}
use Rattle.clap.proofs.WalkLemmas.{first_value-rows}
use Rattle.program_top.proofs.Readings.{unsaid, said_some, said_none}
use Rattle.program_top.specs.WordsRead.{number_read}
use Rattle.program_top.proofs.words.read_number.Goals as goal

pub returns-in-None-clause-some : goal.returns-in-None-clause-some
returns-in-None-clause-some c = unsaid (rows_of (found_of c.args.matches.now)) (number_read c.args.option)
    ((sym (ap (option_map (λ s. s.now)) c.in-None.is) ∙ c.get_str.ensures) ∙ first_value-rows (found_of c.args.matches.now) c.args.option.name.now) c.requires

pub returns-in-Some-clause-some : goal.returns-in-Some-clause-some
returns-in-Some-clause-some c = said_some (rows_of (found_of c.args.matches.now)) (number_read c.args.option) c.in-Some.text.now
    ((sym (ap (option_map (λ s. s.now)) c.in-Some.is) ∙ c.get_str.ensures) ∙ first_value-rows (found_of c.args.matches.now) c.args.option.name.now) c.number_of.result
    c.number_of.ensures.some

pub returns-in-Some-clause-none : goal.returns-in-Some-clause-none
returns-in-Some-clause-none c = said_none (rows_of (found_of c.args.matches.now)) (number_read c.args.option) c.in-Some.text.now
    ((sym (ap (option_map (λ s. s.now)) c.in-Some.is) ∙ c.get_str.ensures) ∙ first_value-rows (found_of c.args.matches.now) c.args.option.name.now) c.number_of.result
    c.number_of.ensures.none
