use Rattle.cmd_values.proofs.StringLemmas.{other_found, found_text}
use Rattle.cmd_values.proofs.strings.look.sought_text.Goals as goal

pub returns-in-None-as_text : goal.returns-in-None-as_text
returns-in-None-as_text g c = other_found _ _ c.args.at.now c.args.key.now c.value_at.result.now c.in-None-as_text.ensures.none
    (c.value_at.ensures c.args.key.now c.args.at.now.moment (rw c.in-Some.is at c.requires.sees.there))

pub returns-in-Some-as_text : goal.returns-in-Some-as_text
returns-in-Some-as_text g c = found_text _ _ c.args.at.now c.args.key.now c.value_at.result.now c.in-Some-as_text.text.now c.in-Some-as_text.ensures.some
    (c.value_at.ensures c.args.key.now c.args.at.now.moment (rw c.in-Some.is at c.requires.sees.there))
