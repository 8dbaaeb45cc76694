use Rattle.std.proofs.Common.{◌<◌, ◌+◌, [], ◌∷◌, ◌++◌, Err, length, drop, ◌∙◌, arith, rules}
use Rattle.plain_model.specs.ZsetWords.{scores_read}
use Rattle.command_words.specs.Readings.{Passes, word_at}
use Rattle.command_words.proofs.AddWords.{as_passes, pair_step, score_fails}
use Rattle.command_words.proofs.zset_scores.check_scores.Goals as goal

pub returns-in_err-score : goal.returns-in_err-score
returns-in_err-score c =
    let words = c.args.request.now in
    let i = c.loop-index.index in
    let within : i < length words = omega (arith, c.loop-index-test.true, c.len.ensures.len) in
    let means = scores_read (drop c.args.from words) in
    let fault = c.in_err-score.field-0.0 in
    let refused : Passes means (Err fault) = as_passes means fault (score_fails c.loop-index.invariant.0.0 words i fault means c.loop-index.invariant.0.1 within c.in_err-score.ensures) in
    search rules

pub loop-index-preserved : goal.loop-index-preserved
loop-index-preserved c =
    let words = c.args.request.now in
    let i = c.loop-index.index in
    let pairs = c.loop-index.invariant.0.0 in
    let n = c.in_ok-score.field-0 in
    let within : i + 1 < length words = omega (arith, c.loop-index-test.true, c.len.ensures.len, c.if-len-index-lt2.false, c.len-in-loop-index.ensures.len) in
    ((pairs ++ (n, word_at words (i + 1)) ∷ [], c.loop-index.invariant.0.1 ∙ pair_step pairs words i n within c.in_ok-score.ensures), omega (arith, within))
