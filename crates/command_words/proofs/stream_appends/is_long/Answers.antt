use Rattle.std.proofs.Common.{◌≡◌, ◌<◌, length, drop, length-drop, arith, rules, refl}
use Rattle.std.specs.Prelude.{◌%◌}
use Rattle.command_words.specs.Readings.{word_at}
use Rattle.command_words.proofs.AppendWords.{bytes_on, no_bytes, pairs_words}
use Rattle.command_words.proofs.stream_appends.is_long.Goals as goal

pub returns-in-None : goal.returns-in-None
returns-in-None c =
    let words = c.args.request.now in
    let i = c.loop-index.index in
    let within : i < length words = omega (arith, c.loop-index-test.true, c.len-index-end.ensures.len) in
    let long : c.loop-index.left < length (word_at words i) = search (rules, arith) in
    let even : length (drop c.args.from words) % 2 ≡ 0 = omega (arith, c.requires, length-drop c.args.from words) in
    let same = pairs_words (drop c.args.from words) even in
    let here = bytes_on words i within in
    (λ e. absurd (cc e), λ few. absurd (omega (arith, few, same, here, long, c.loop-index.invariant)))

pub returns : goal.returns
returns c =
    let words = c.args.request.now in
    let i = c.loop-index.index in
    let even : length (drop c.args.from words) % 2 ≡ 0 = omega (arith, c.requires, length-drop c.args.from words) in
    let same = pairs_words (drop c.args.from words) even in
    let none = no_bytes words i (omega (arith, c.loop-index-test.false, c.len-index-end.ensures.len)) in
    (λ e. omega (arith, same, none, c.loop-index.invariant), λ few. refl)
