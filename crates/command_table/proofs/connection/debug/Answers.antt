use Rattle.std.proofs.Common.{◌≡◌, true, false, Err, drop, arith, rules}
use Rattle.std.specs.Prelude.{bytes_eq, codes}
use Rattle.plain_world.specs.Words.{in_lower_case}
use Rattle.plain_model.specs.Shapes.{by_second}
use Rattle.plain_model.specs.ConnectionWords.{debug_rows}
use Rattle.command_words.specs.Readings.{Tells, word_at}
use Rattle.command_table.proofs.SecondWords.{defrag_refused}
use Rattle.command_table.proofs.connection.debug.Goals as goal

pub returns-in_err-steps-2 : goal.returns-in_err-steps-2
returns-in_err-steps-2 c =
    let words = c.args.request.now in
    let fault = c.in_err-steps-2.field-0.0 in
    let other : bytes_eq (in_lower_case (word_at words 1)) (codes "rehash") ≡ false = search rules in
    let is : bytes_eq (in_lower_case (word_at words 1)) (codes "defrag") ≡ true = search rules in
    let refused : Tells (by_second 2 debug_rows (drop 1 words)) (Err fault) = defrag_refused words (omega (arith, c.if-len-lt3.false, c.len.ensures.len)) fault other is c.in_err-steps-2.ensures in
    search rules
