use Rattle.std.proofs.Common.{◌≡◌, ◌≤◌, ◌+◌, Err, length, drop, length-drop, arith, rules}
use Rattle.std.specs.Prelude.{codes}
use Rattle.plain_world.specs.Words.{in_lower_case}
use Rattle.command_words.specs.Readings.{word_at}
use Rattle.command_words.specs.Joins.{OptionSays, join_option}
use Rattle.command_words.proofs.Weights.{weights_refused, weights_told}
use Rattle.command_words.proofs.joins.join_option.Goals as goal

pub returns-in_err-check_weights-clause-says : goal.returns-in_err-check_weights-clause-says
returns-in_err-check_weights-clause-says c =
    let words = c.args.request.now in
    let i = c.args.index in
    let n = c.args.count in
    let fault = c.in_err-check_weights.field-0.0 in
    let named : in_lower_case (word_at words i) ≡ codes "weights" = search rules in
    let refused : OptionSays words n (join_option words n c.args.options i) (Err fault) = weights_refused words n c.args.options i c.requires.weights named fault c.in_err-check_weights.ensures.says in
    search rules

pub returns-then-is_word-clause-says : goal.returns-then-is_word-clause-says
returns-then-is_word-clause-says c =
    let words = c.args.request.now in
    let i = c.args.index in
    let n = c.args.count in
    let named : in_lower_case (word_at words i) ≡ codes "weights" = search rules in
    let many : n ≤ length (drop (i + 1) words) = omega (arith, c.in_ok-check_weights.ensures.within, length-drop (i + 1) words) in
    let own = c.in_ok-check_weights.ensures.says in
    let told = weights_told words n c.args.options i c.requires.weights named many own.0 own.1 in
    (own.0, told.0, told.1)
