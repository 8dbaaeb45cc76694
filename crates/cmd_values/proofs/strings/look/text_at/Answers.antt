use Rattle.cmd_values.proofs.StringLemmas.{other_found}
use Rattle.cmd_values.proofs.strings.look.text_at.Goals as goal

pub returns-in-None-as_text : goal.returns-in-None-as_text
returns-in-None-as_text g c = other_found _ _ c.args.at.now c.args.key.now c.in-Some.value.now c.in-None-as_text.ensures.none c.in-Some.ensures.found
