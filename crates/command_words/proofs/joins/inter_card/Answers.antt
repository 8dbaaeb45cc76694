use Rattle.std.proofs.Common.{◌≡◌, ◌≤◌, Ok, Err, length, drop, ap, ◌∙◌, arith, rules}
use Rattle.plain_model.specs.SetWords.{inter_card_words}
use Rattle.plain_model.specs.declared.command.Command.TheVariants.{Sets}
use Rattle.plain_model.specs.declared.set_command.SetCommand.TheVariants as sets
use Rattle.plain_model.specs.Shapes.{and_then}
use Rattle.command_words.specs.Readings.{ReadsSet}
use Rattle.command_words.proofs.JoinWords.{card_short, card_count_refused, card_limit_refused, card_keys_missing, card_keys_told}
use Rattle.command_words.proofs.joins.inter_card.Goals as goal

pub returns-then-len-lt3 : goal.returns-then-len-lt3
returns-then-len-lt3 c = card_short c.args.request.now (omega (arith, c.if-len-lt3.true, c.len.ensures.len))

pub returns-in_err-count : goal.returns-in_err-count
returns-in_err-count c =
    let words = c.args.request.now in
    let many : 3 ≤ length words = omega (arith, c.if-len-lt3.false, c.len.ensures.len) in
    let refused : ReadsSet (inter_card_words (drop 1 words)) (Err c.in_err-count.field-0.0) = card_count_refused words many c.in_err-count.field-0.0 c.in_err-count.ensures.says in
    search rules

pub returns-in_err-limit : goal.returns-in_err-limit
returns-in_err-limit c =
    let words = c.args.request.now in
    let many : 3 ≤ length words = omega (arith, c.if-len-lt3.false, c.len.ensures.len) in
    let refused : ReadsSet (inter_card_words (drop 1 words)) (Err c.in_err-limit.field-0.0) =
    card_limit_refused words many c.in_ok-count.count c.in_ok-count.ensures.says c.in_err-limit.field-0.0 c.in_err-limit.ensures in
    search rules

pub returns-in_err-keys : goal.returns-in_err-keys
returns-in_err-keys c =
    let words = c.args.request.now in
    let many : 3 ≤ length words = omega (arith, c.if-len-lt3.false, c.len.ensures.len) in
    let refused : ReadsSet (inter_card_words (drop 1 words)) (Err c.in_err-keys.field-0.0) =
    card_keys_missing words many c.in_ok-count.count c.in_ok-count.ensures.says c.in_ok-limit.limit c.in_err-keys.field-0.0 c.in_ok-limit.ensures c.in_err-keys.ensures in
    search rules

pub returns : goal.returns
returns c =
    let words = c.args.request.now in
    let many : 3 ≤ length words = omega (arith, c.if-len-lt3.false, c.len.ensures.len) in
    let same : c.in_ok-limit.limit ≡ c.limit.inside.0 = search rules in
    ap (λ r. and_then r (λ command. Ok (Sets command)))
    (card_keys_told words many c.in_ok-count.count c.in_ok-count.ensures.says c.in_ok-limit.limit c.in_ok-limit.ensures c.in_ok-keys.keys c.in_ok-keys.ensures
    ∙ ap (λ limit. Ok (sets.SInterCard c.in_ok-keys.keys limit)) same)
