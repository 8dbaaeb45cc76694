use Rattle.std.proofs.Common.{drop, arith}
use Rattle.command_words.specs.Readings.{word_at}
use Rattle.command_words.proofs.Shapes.{one_and_words_kept}
use Rattle.command_words.proofs.kinds.one_and_words.Goals as goal

pub returns-then-is_err : goal.returns-then-is_err
returns-then-is_err c = ((word_at c.args.request.now 1, drop 2 c.args.request.now), one_and_words_kept c.args.request.now (omega (arith, c.if-len-lt3.false, c.len.ensures.len)))
