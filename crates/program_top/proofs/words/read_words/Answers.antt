use Rattle.std.proofs.Common.{sym, ◌∙◌, map, subst}
use Rattle.std.specs.Prelude.{string_bytes}
use Rattle.program_top.specs.WordsRead.{IsPlainCommand}
use Rattle.program_top.proofs.Readings.{found_some, found_none, given_taken, given_refused, plain_command}
use Rattle.program_top.proofs.words.read_words.Goals as goal

pub matched-requires : goal.matched-requires
matched-requires c = subst IsPlainCommand (sym c.in_ok-command.ensures) plain_command

pub returns-in-Ok-Some-clause-options : goal.returns-in-Ok-Some-clause-options
returns-in-Ok-Some-clause-options c =
    given_taken _ (map string_bytes c.args.words.now) c.in_ok-command.ensures _ (found_some _ _ _ c.in-Ok-Some.field-0-is c.in-Ok-Some.ensures.some) ∙ sym c.given_by.ensures.given

pub returns-in-Ok-None-clause-options : goal.returns-in-Ok-None-clause-options
returns-in-Ok-None-clause-options c = given_refused _ (map string_bytes c.args.words.now) c.in_ok-command.ensures (found_none _ _ c.in-Ok-None.field-0-is c.in-Ok-None.ensures.none)
