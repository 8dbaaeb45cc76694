use Rattle.std.proofs.Common.{◌≡◌, ◌<◌, ◌≤◌, ◌+◌, ◌-◌, [], ◌∷◌, ◌++◌, Err, length, drop, ◌∙◌, subst, ap, arith, rules}
use Rattle.std.specs.Prelude.{IfOk}
use Rattle.plain_model.specs.StreamWords.{keyed}
use Rattle.command_words.specs.Readings.{Gathers, word_at}
use Rattle.command_words.proofs.Gathering.{in_front, keyed_on, keyed_fails, more_kept}
use Rattle.command_words.proofs.stream_reads.keyed.Goals as goal

pub loop-index-init : goal.loop-index-init
loop-index-init c =
    let words = c.args.request.now in
    let sign = c.args.sign.now in
    let end = length words in
    let key : end - c.args.count - c.args.count ≡ c.args.from = omega (arith, c.requires) in
    let place : end - c.args.count ≡ c.args.from + c.args.count = omega (arith, c.requires) in
    let means = keyed sign (drop c.args.from words) (drop (c.args.from + c.args.count) words) in
    let same : keyed sign (drop (end - c.args.count - c.args.count) words) (drop (end - c.args.count) words) ≡ means =
    ap (λ n. keyed sign (drop n words) (drop (end - c.args.count) words)) key ∙ ap (λ n. keyed sign (drop c.args.from words) (drop n words)) place in
    search rules

pub returns-in_err-id : goal.returns-in_err-id
returns-in_err-id c =
    let words = c.args.request.now in
    let i = c.loop-index.index in
    let kept = c.loop-index.invariant.0.0 in
    let fault = c.in_err-id.field-0.0 in
    let within : i < length words = search (rules, arith) in
    let means = keyed c.args.sign.now (drop c.args.from words) (drop (c.args.from + c.args.count) words) in
    let refused : Gathers means (Err fault) = keyed_fails c.args.sign.now words kept (i - c.args.count) i fault means c.loop-index.invariant.0.1 (omega (arith, within)) within c.in_err-id.ensures in
    search rules

pub loop-index-preserved : goal.loop-index-preserved
loop-index-preserved c =
    let words = c.args.request.now in
    let sign = c.args.sign.now in
    let i = c.loop-index.index in
    let kept = c.loop-index.invariant.0.0 in
    let id = c.in_ok-id.id in
    let key = i - c.args.count in
    let some : c.args.count ≤ i = c.loop-index.invariant.1 in
    let within : i < length words = search (rules, arith) in
    let next : key + 1 ≡ i + 1 - c.args.count = omega (arith, some) in
    let named : c.plain.result ≡ word_at words key = search rules in
    let more = more_kept c.loop-index.list c.with_key-list.result kept (c.plain.result, id) c.loop-index.invariant.0.2 c.with_key-list.ensures in (
      (
        kept ++ (word_at words key, id) ∷ [],
        c.loop-index.invariant.0.1 ∙ keyed_on sign words kept key i id (omega (arith, within)) within c.in_ok-id.ensures
            ∙ ap (λ n. in_front (kept ++ (word_at words key, id) ∷ []) (keyed sign (drop n words) (drop (i + 1) words))) next,
        subst (λ w. IfOk c.with_key-list.result (λ l. l ≡ kept ++ (w, id) ∷ [])) named more,
      ),
      omega (arith, some),
    )
