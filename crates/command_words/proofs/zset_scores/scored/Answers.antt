use Rattle.std.proofs.Common.{◌≡◌, ◌≢◌, ◌⊎◌, inl, inr, true, false, Err, length, drop, length-drop, ap, arith, rules}
use Rattle.plain_model.specs.ZsetWords.{clash}
use Rattle.command_words.specs.Readings.{ReadsZset, word_at, scored}
use Rattle.command_words.proofs.AddWords.{among_all, pairs_made, pairs_missing, scored_breaks}
use Rattle.command_words.proofs.zset_scores.scored.Goals as goal
use Rattle.command_words.proofs.zset_scores.scored.Goals.{then-clash-via-then-clash, then-clash-via-else-clash+then-from-len}

pub returns-then-clash : goal.returns-then-clash
returns-then-clash c =
    let words = c.args.request.now in
    let own = drop c.args.from words in
    let pairs = c.in_ok-check_scores.ensures in
    let why : (clash c.args.options.rules ≡ true) ⊎ (length own ≡ 0) =
    elim c.then-clash.branch [
      | then-clash-via-then-clash w ↦ inl (search rules)
      | then-clash-via-else-clash+then-from-len w ↦ inr (omega (arith, w.if-from-len.true, w.len.ensures.len, length-drop c.args.from words))
    ] in
    ap among_all (scored_breaks (word_at words 1) c.args.options own pairs.0 pairs.1 why)

pub returns-in_err-pairs : goal.returns-in_err-pairs
returns-in_err-pairs c =
    let words = c.args.request.now in
    let own = drop c.args.from words in
    let fault = c.in_err-pairs.field-0.0 in
    let allowed : clash c.args.options.rules ≡ false = search rules in
    let plain : c.args.options.incr ≡ false = search rules in
    let some : length own ≢ 0 = λ none. omega (arith, none, c.if-from-len.false, c.len.ensures.len, c.requires.from, length-drop c.args.from words) in
    let refused : ReadsZset (scored (word_at words 1) c.args.options own) (Err fault) = pairs_missing (word_at words 1) c.args.options own fault allowed plain some c.in_err-pairs.ensures in
    search rules

pub returns : goal.returns
returns c =
    let words = c.args.request.now in
    let own = drop c.args.from words in
    let allowed : clash c.args.options.rules ≡ false = search rules in
    let plain : c.args.options.incr ≡ false = search rules in
    let some : length own ≢ 0 = λ none. omega (arith, none, c.if-from-len.false, c.len.ensures.len, c.requires.from, length-drop c.args.from words) in
    rw c.plain.ensures (ap among_all (pairs_made (word_at words 1) c.args.options own c.in_ok-pairs.pairs allowed plain some c.in_ok-pairs.ensures))
