use Rattle.std.proofs.Common.{sym, ap, ◌∙◌, false, codes}
use Rattle.std.specs.Prelude.{bytes_eq, option_map}
use Rattle.std.specs.Option.{option_map_or}
use Rattle.clap.specs.Matches.{found_of}
use Rattle.clap.proofs.WalkLemmas.{first_value-rows}
use Rattle.saving_top.specs.Asked.{audit}
use Rattle.saving_top.proofs.words.is_flagged.Goals as goal

pub returns-in-None : goal.returns-in-None
returns-in-None c = ap (λ o. option_map_or (λ t. bytes_eq t (codes "true")) o false)
    ((sym (ap (option_map (λ s. s.now)) c.in-None.is) ∙ c.get_str.ensures) ∙ first_value-rows (found_of c.args.matches.now) audit)

pub returns-in-Some : goal.returns-in-Some
returns-in-Some c = c.eq.ensures ∙ ap (λ o. option_map_or (λ t. bytes_eq t (codes "true")) o false)
    ((sym (ap (option_map (λ s. s.now)) c.in-Some.is) ∙ c.get_str.ensures) ∙ first_value-rows (found_of c.args.matches.now) audit)
