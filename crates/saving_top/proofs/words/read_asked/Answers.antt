use Rattle.std.proofs.Common.{sym, ◌∙◌, map, subst}
use Rattle.std.specs.Prelude.{string_bytes}
use Rattle.program_top.proofs.Readings.{found_some, found_none}
use Rattle.program_top.specs.WordsRead.{IsPlainCommand}
use Rattle.saving_top.proofs.Readings.{asked_taken, asked_refused, plain_closing}
use Rattle.saving_top.proofs.words.read_asked.Goals as goal

pub matched-requires : goal.matched-requires
matched-requires c = subst IsPlainCommand (sym c.in_ok-command.ensures) plain_closing

pub returns-in-Ok-Some-clause-asked : goal.returns-in-Ok-Some-clause-asked
returns-in-Ok-Some-clause-asked c =
    asked_taken _ (map string_bytes c.args.words.now) c.in_ok-command.ensures _ (found_some _ _ _ c.in-Ok-Some.field-0-is c.in-Ok-Some.ensures.some) ∙ sym c.asked_by.ensures.asked

pub returns-in-Ok-None-clause-asked : goal.returns-in-Ok-None-clause-asked
returns-in-Ok-None-clause-asked c = asked_refused _ (map string_bytes c.args.words.now) c.in_ok-command.ensures (found_none _ _ c.in-Ok-None.field-0-is c.in-Ok-None.ensures.none)
