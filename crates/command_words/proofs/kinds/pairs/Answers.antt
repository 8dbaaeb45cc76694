use Rattle.std.proofs.Common.{drop, arith}
use Rattle.plain_model.specs.StringWords.{pairs_of}
use Rattle.command_words.proofs.Shapes.{pairs_kept}
use Rattle.command_words.proofs.kinds.pairs.Goals as goal

pub returns-then-is_err : goal.returns-then-is_err
returns-then-is_err c = (
  pairs_of (drop 1 c.args.request.now),
  pairs_kept c.args.request.now (omega (arith, c.if-len-lt2.false, c.len.ensures.len))
      (omega (arith, c.if-len-eq0.false, c.len-else-len-lt2.ensures.len)),
)
