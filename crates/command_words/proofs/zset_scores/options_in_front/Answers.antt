use Rattle.std.proofs.Common.{◌<◌, length, ◌∙◌, sym, arith}
use Rattle.command_words.proofs.AddWords.{front_step, front_stops}
use Rattle.command_words.proofs.zset_scores.options_in_front.Goals as goal

pub loop-index-preserved : goal.loop-index-preserved
loop-index-preserved c =
    let words = c.args.request.now in
    let i = c.loop-index.index in
    let within : i < length words = omega (arith, c.loop-index-test.true, c.len.ensures.len) in
    let step = front_step c.loop-index.options c.in-Ok.next c.in-Ok.field-0-1 words i within c.in-Ok.ensures in
    (sym step.0 ∙ c.loop-index.invariant.0, omega (arith, step.1, c.loop-index.invariant.1), omega (arith, within))

pub returns-in-Err-clause-says : goal.returns-in-Err-clause-says
returns-in-Err-clause-says c =
    let words = c.args.request.now in
    let i = c.loop-index.index in
    let within : i < length words = omega (arith, c.loop-index-test.true, c.len.ensures.len) in
    let stops = front_stops c.loop-index.options words i c.in-Err.field-0 within c.in-Err.ensures in
    sym c.loop-index.invariant.0 ∙ stops.0

pub returns-in-Err-clause-behind : goal.returns-in-Err-clause-behind
returns-in-Err-clause-behind c =
    let words = c.args.request.now in
    let i = c.loop-index.index in
    let within : i < length words = omega (arith, c.loop-index-test.true, c.len.ensures.len) in
    let stops = front_stops c.loop-index.options words i c.in-Err.field-0 within c.in-Err.ensures in
    omega (arith, stops.1, c.loop-index.invariant.1)
