use Rattle.std.proofs.Common.{drop, arith}
use Rattle.command_words.proofs.Shapes.{words_kept}
use Rattle.command_words.proofs.kinds.words.Goals as goal

pub returns-then-is_err : goal.returns-then-is_err
returns-then-is_err c = (drop 1 c.args.request.now, words_kept c.args.request.now (omega (arith, c.if-len-lt2.false, c.len.ensures.len)))
