use Rattle.std.proofs.Common.{sym, ap, ◌∙◌}
use Rattle.plain_model.specs.Shapes.{cursor}
use Rattle.command_words.proofs.Told.{cursor_told, no_cursor_told}
use Rattle.command_words.proofs.words.cursor.Goals as goal

pub returns-in-Some : goal.returns-in-Some
returns-in-Some c = ap cursor (sym c.word.ensures) ∙ cursor_told c.word.result.now c.in-Some.cursor c.in-Some.ensures.0 c.in-Some.ensures.1

pub returns-in-None : goal.returns-in-None
returns-in-None c = ap cursor (sym c.word.ensures) ∙ no_cursor_told c.word.result.now c.in-None.ensures
