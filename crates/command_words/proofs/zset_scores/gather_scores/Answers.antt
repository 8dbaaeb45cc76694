use Rattle.std.proofs.Common.{◌≡◌, ◌<◌, ◌+◌, [], ◌∷◌, ◌++◌, Err, length, drop, ◌∙◌, sym, ap, arith, rules, w64, SFits}
use Rattle.std.proofs.lemmas.Int.{to_z-of_z}
use Rattle.plain_model.specs.ZsetWords.{scores_read}
use Rattle.command_words.specs.Readings.{Gathers, word_at}
use Rattle.command_words.proofs.AddWords.{as_gathers, behind_pairs, pair_step, score_fails}
use Rattle.command_words.proofs.zset_scores.gather_scores.Goals as goal

pub returns-in_err-n : goal.returns-in_err-n
returns-in_err-n c =
    let words = c.args.request.now in
    let i = c.loop-index.index in
    let within : i < length words = omega (arith, c.loop-index-test.true, c.len.ensures.len) in
    let means = scores_read (drop c.args.from words) in
    let fault = c.in_err-n.field-0.0 in
    let refused : Gathers means (Err fault) = as_gathers means fault (score_fails c.loop-index.list words i fault means c.loop-index.invariant.0 within c.in_err-n.ensures) in
    search rules

pub loop-index-preserved : goal.loop-index-preserved
loop-index-preserved c =
    let words = c.args.request.now in
    let i = c.loop-index.index in
    let n = c.in_ok-n.n in
    let fits : SFits w64 n = search rules in
    let same = to_z-of_z w64 n fits in
    let within : i + 1 < length words = omega (arith, c.loop-index-test.true, c.len.ensures.len, c.if-len-index-lt2.false, c.len-in-loop-index.ensures.len) in
    let pushed : c.push.new.self ≡ c.loop-index.list ++ (n, word_at words (i + 1)) ∷ [] = search (rules, same) in
    (c.loop-index.invariant.0 ∙ pair_step c.loop-index.list words i n within c.in_ok-n.ensures ∙ ap (λ l. behind_pairs l (drop (i + 2) words)) (sym pushed), omega (arith, within))
