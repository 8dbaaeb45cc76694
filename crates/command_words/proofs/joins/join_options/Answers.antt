use Rattle.std.proofs.Common.{◌<◌, Err, length, drop, ◌∙◌, refl, sym, subst, arith, rules}
use Rattle.plain_model.specs.ZsetWords.{ones}
use Rattle.command_words.specs.Joins.{AreWeights, JoinSays, all_join_options}
use Rattle.command_words.proofs.Weights.{option_fails, option_step, options_end}
use Rattle.command_words.proofs.joins.join_options.Goals as goal

pub loop-index-init : goal.loop-index-init
loop-index-init c = (ones c.args.count, refl, refl, c.requires)

pub returns-in_err-next : goal.returns-in_err-next
returns-in_err-next c =
    let words = c.args.request.now in
    let i = c.loop-index.index in
    let n = c.args.count in
    let held = c.loop-index.invariant in
    let fault = c.in_err-next.field-0.0 in
    let within : i < length words = omega (arith, c.loop-index-test.true, c.len.ensures.len) in
    let are : AreWeights words n c.loop-index.options.weights = (held.0, held.1) in
    let refused : JoinSays words n (all_join_options n (drop c.args.from words)) (Err fault) =
    subst (λ r. JoinSays words n r (Err fault)) (sym held.2) (option_fails words n c.loop-index.options i are fault within c.in_err-next.ensures.says) in
    search rules

pub loop-index-preserved : goal.loop-index-preserved
loop-index-preserved c =
    let words = c.args.request.now in
    let i = c.loop-index.index in
    let n = c.args.count in
    let held = c.loop-index.invariant in
    let says = c.in_ok-next.ensures.says in
    let within : i < length words = omega (arith, c.loop-index-test.true, c.len.ensures.len) in
    let are : AreWeights words n c.loop-index.options.weights = (held.0, held.1) in
    (says.0, says.1, held.2 ∙ option_step words n c.loop-index.options i are c.in_ok-next.next c.in_ok-next.own says within, c.in_ok-next.ensures.behind)

pub returns : goal.returns
returns c =
    let words = c.args.request.now in
    let held = c.loop-index.invariant in
    (held.0, held.1, held.2 ∙ options_end words c.args.count (held.0, c.loop-index.options.aggregate) c.loop-index.index (omega (arith, c.loop-index-test.false, c.len.ensures.len)))
