use Rattle.std.proofs.Common.{◌≡◌, ◌<◌, ◌≤◌, ◌+◌, [], ◌∷◌, ◌++◌, length, drop, ◌∙◌, sym, ap, subst, arith, rules, w64, SFits}
use Rattle.std.proofs.lemmas.Int.{to_z-of_z}
use Rattle.plain_world.specs.Words.{IsRequest}
use Rattle.plain_model.specs.ZsetWords.{weighed}
use Rattle.command_words.specs.Readings.{word_at}
use Rattle.command_words.proofs.Weights.{all_weighed, keys_of, weigh_step, weight_stands, weights_within, weighed_told}
use Rattle.command_words.proofs.joins.gather_weighed.Goals as goal

pub weight-requires : goal.weight-requires
weight-requires c =
    let l : c.loop-index.index < c.args.count = search rules in
    weights_within c.args.request.now c.args.count c.args.weights c.loop-index.index l c.requires.weights

pub overflow_add-index : goal.overflow_add-index
overflow_add-index c =
    let request : IsRequest c.args.request.now = search rules in
    let few : length c.args.request.now ≤ 1048576 = request.few in
    let l : c.loop-index.index < c.args.count = search rules in
    omega (arith, l, few, c.requires.within)

pub returns-in_err-own : goal.returns-in_err-own
returns-in_err-own c =
    let words = c.args.request.now in
    let i = c.loop-index.index in
    let held = c.loop-index.invariant in
    let l : i < c.args.count = search rules in
    absurd (weight_stands words c.args.count c.args.weights held.0 i c.in_err-own.field-0.0 l held.1 c.in_err-own.ensures)

pub loop-index-preserved : goal.loop-index-preserved
loop-index-preserved c =
    let words = c.args.request.now in
    let i = c.loop-index.index in
    let n = c.in_ok-own.own in
    let held = c.loop-index.invariant in
    let l : i < c.args.count = search rules in
    let fits : SFits w64 n = search rules in
    let same = to_z-of_z w64 n fits in
    let pushed : c.push.new.self ≡ c.loop-index.list ++ (n, word_at words (3 + i)) ∷ [] = search (rules, same) in
    let keys = keys_of words c.args.count in (
      held.0,
      held.1,
      ap (λ l. l ++ weighed (drop (i + 1) held.0) (drop (i + 1) keys)) pushed
          ∙ sym (weigh_step words c.args.count c.args.weights held.0 c.loop-index.list i n l c.requires.within held.1 c.in_ok-own.ensures) ∙ held.2,
    )

pub returns-then-is_err : goal.returns-then-is_err
returns-then-is_err c =
    let words = c.args.request.now in
    let held = c.loop-index.invariant in
    (weighed held.0 (keys_of words c.args.count), weighed_told words c.args.count c.args.weights held.0 held.1)

pub returns : goal.returns
returns c =
    let words = c.args.request.now in
    let held = c.loop-index.invariant in
    let keys = keys_of words c.args.count in
    let end : c.loop-index.index ≡ c.args.count = search rules in
    all_weighed words c.args.count c.args.weights held.0 c.loop-index.list c.requires.within held.1
    (subst (λ m. c.loop-index.list ++ weighed (drop m held.0) (drop m keys) ≡ weighed held.0 keys) end held.2)
