use Rattle.std.proofs.Common.{◌≤◌, length, sym, ap, subst, arith}
use Rattle.command_words.specs.Readings.{ReadsZset}
use Rattle.command_words.proofs.AddWords.{add_short, add_then, among_all}
use Rattle.command_words.proofs.zset_scores.add.Goals as goal

pub returns-then-len-lt4 : goal.returns-then-len-lt4
returns-then-len-lt4 c = ap among_all (add_short c.args.request.now (omega (arith, c.if-len-lt4.true, c.len.ensures.len)))

pub returns : goal.returns
returns c =
    let words = c.args.request.now in
    let many : 4 ≤ length words = omega (arith, c.if-len-lt4.false, c.len.ensures.len) in
    subst (λ m. ReadsZset m c.scored.result)
    (sym (add_then words c.options_in_front-from.result.0 c.options_in_front-from.result.1 many c.options_in_front-from.ensures.says c.options_in_front-from.ensures.behind))
    c.scored.ensures
