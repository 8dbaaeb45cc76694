use Rattle.std.proofs.Common.{drop, length-drop, arith}
use Rattle.command_words.specs.Readings.{word_at}
use Rattle.command_words.proofs.AddWords.{increment_breaks}
use Rattle.command_words.proofs.zset_scores.increment.Goals as goal

pub returns-then-len-from-ne2 : goal.returns-then-len-from-ne2
returns-then-len-from-ne2 c =
    let words = c.args.request.now in
    let pairs = c.in_ok-check_scores.ensures in
    increment_breaks (word_at words 1) c.args.options (drop c.args.from words) pairs.0 c.requires.incr pairs.1
    (λ two. omega (arith, two, c.if-len-from-ne2.true, c.len.ensures.len, length-drop c.args.from words))
