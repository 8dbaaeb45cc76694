use Rattle.std.proofs.Common.{◌≡◌, ◌<◌, ◌+◌, Err, None, true, false, length, length-drop, drop, ◌∙◌, sym, ap, arith, rules, w64, SFits}
use Rattle.std.specs.Prelude.{bytes_eq, codes}
use Rattle.std.proofs.lemmas.Int.{to_z-of_z}
use Rattle.plain_world.specs.Words.{in_lower_case}
use Rattle.plain_model.specs.StreamWords.{at_most_or_all, keys_and_ids, streams_read}
use Rattle.command_words.specs.Readings.{Gathers, word_at}
use Rattle.command_words.proofs.StreamPlaces.{count_found, limited_fails, streams_found, streams_short}
use Rattle.command_words.proofs.stream_reads.streams.Goals as goal

pub returns-in_err-list : goal.returns-in_err-list
returns-in_err-list c =
    let words = c.args.request.now in
    let sign = c.args.sign.now in
    let i = c.loop-index.index in
    let limit = c.loop-index.limit in
    let within : i + 1 < length words = omega (arith, c.loop-index-test.true, c.len.ensures.len, c.loop-index.invariant.1) in
    let is : bytes_eq (in_lower_case (word_at words i)) (codes "streams") ≡ true = search rules in
    let fault = c.in_err-list.field-0.0 in
    let means = streams_read sign None (drop c.args.from words) in
    let refused : Gathers means (Err fault) = limited_fails limit fault (keys_and_ids sign (drop (i + 1) words)) means
    (c.loop-index.invariant.0 ∙ streams_found sign limit words i within is) c.in_err-list.ensures in
    search rules

pub loop-index-preserved : goal.loop-index-preserved
loop-index-preserved c =
    let words = c.args.request.now in
    let sign = c.args.sign.now in
    let i = c.loop-index.index in
    let limit = c.loop-index.limit in
    let n = c.in_ok-n.n in
    let fits : SFits w64 n = search rules in
    let within : i + 1 < length words = omega (arith, c.loop-index-test.true, c.len.ensures.len, c.loop-index.invariant.1) in
    let other : bytes_eq (in_lower_case (word_at words i)) (codes "streams") ≡ false = search rules in
    let is : bytes_eq (in_lower_case (word_at words i)) (codes "count") ≡ true = search rules in
    let next : c.at_most_or_all-limit.result ≡ at_most_or_all n = c.at_most_or_all-limit.ensures ∙ ap at_most_or_all (to_z-of_z w64 n fits) in
    (c.loop-index.invariant.0 ∙ count_found sign limit words i within n other is c.in_ok-n.ensures ∙ ap (λ l. streams_read sign l (drop (i + 2) words)) (sym next), omega (arith, within))

pub returns : goal.returns
returns c =
    let words = c.args.request.now in
    let i = c.loop-index.index in
    c.loop-index.invariant.0 ∙ streams_short c.args.sign.now c.loop-index.limit (drop i words)
    (omega (arith, c.loop-index-test.false, c.len.ensures.len, c.loop-index.invariant.1, length-drop i words))
