use Rattle.std.proofs.Common.{◌≡◌, ◌<◌, ◌+◌, true, length, drop, ◌∙◌, sym, ap, arith, rules}
use Rattle.plain_model.specs.StreamWords.{append_options, is_option}
use Rattle.command_words.specs.Readings.{word_at}
use Rattle.command_words.proofs.AppendWords.{options_on}
use Rattle.command_words.proofs.stream_appends.append_options.Goals as goal

pub loop-index-preserved : goal.loop-index-preserved
loop-index-preserved c =
    let words = c.args.request.now in
    let i = c.loop-index.index in
    let after = c.in_ok-options.options in
    let within : i < length words = omega (arith, c.loop-index-test.true, c.len.ensures.len) in
    let is : is_option (word_at words i) ≡ true = search rules in
    let place = ap (λ n. append_options after 0 (drop (i + 1 + n) words)) c.own_of.ensures.same in
    (place ∙ sym (options_on words i within c.loop-index.options after is c.in_ok-options.ensures) ∙ c.loop-index.invariant.0, omega (arith, within, c.own_of.ensures.few))
