use Rattle.std.proofs.Common.{◌<◌, ◌≤◌, ◌+◌, [], ◌∷◌, ◌++◌, Err, length, drop, arith, rules}
use Rattle.command_words.specs.Readings.{Passes}
use Rattle.command_words.specs.Joins.{own_weights}
use Rattle.command_words.proofs.Weights.{scores_fail, scores_step}
use Rattle.command_words.proofs.joins.check_weights.Goals as goal

pub returns-in_err-score-clause-says : goal.returns-in_err-score-clause-says
returns-in_err-score-clause-says c =
    let words = c.args.request.now in
    let i = c.loop-index.index in
    let fault = c.in_err-score.field-0.0 in
    let whole : c.args.from + c.args.count ≤ length words = omega (arith, c.if-len-from.false, c.len.ensures.len, c.requires) in
    let l : i < c.args.count = search rules in
    let refused : Passes (own_weights c.args.count (drop c.args.from words)) (Err fault) =
    scores_fail words c.args.from i c.args.count c.loop-index.invariant.0 fault whole l c.loop-index.invariant.1 c.in_err-score.ensures in
    search rules

pub loop-index-preserved : goal.loop-index-preserved
loop-index-preserved c =
    let words = c.args.request.now in
    let i = c.loop-index.index in
    let own = c.loop-index.invariant.0 in
    let n = c.in_ok-score.field-0 in
    let l : i < c.args.count = search rules in
    let within : c.args.from + i < length words = omega (arith, l, c.if-len-from.false, c.len.ensures.len, c.requires) in
    (own ++ n ∷ [], scores_step words c.args.from i own n within c.loop-index.invariant.1 c.in_ok-score.ensures)
