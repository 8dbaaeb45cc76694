use Rattle.std.proofs.Common.{drop, arith}
use Rattle.plain_model.specs.StringWords.{pairs_of}
use Rattle.command_words.specs.Readings.{word_at}
use Rattle.command_words.proofs.Shapes.{one_and_pairs_kept}
use Rattle.command_words.proofs.kinds.one_and_pairs.Goals as goal

pub returns-then-is_err : goal.returns-then-is_err
returns-then-is_err c = (
  (word_at c.args.request.now 1, pairs_of (drop 2 c.args.request.now)),
  one_and_pairs_kept c.args.request.now (omega (arith, c.if-len-lt4.false, c.len.ensures.len))
      (omega (arith, c.if-len-eq1.false, c.len-else-len-lt4.ensures.len)),
)
