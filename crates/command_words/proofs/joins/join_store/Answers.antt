use Rattle.std.proofs.Common.{◌≤◌, Err, length, drop, ap, arith, rules}
use Rattle.plain_model.specs.ZsetWords.{join_words}
use Rattle.command_words.specs.Readings.{ReadsZset}
use Rattle.command_words.proofs.AddWords.{among_all}
use Rattle.command_words.proofs.JoinWords.{join_short, join_count_refused, join_options_refused, join_keys_missing, join_made}
use Rattle.command_words.proofs.joins.join_store.Goals as goal

pub returns-then-len-lt4 : goal.returns-then-len-lt4
returns-then-len-lt4 c = join_short c.args.join c.args.request.now (omega (arith, c.if-len-lt4.true, c.len.ensures.len))

pub returns-in_err-count : goal.returns-in_err-count
returns-in_err-count c =
    let words = c.args.request.now in
    let many : 4 ≤ length words = omega (arith, c.if-len-lt4.false, c.len.ensures.len) in
    let refused : ReadsZset (join_words c.args.join (drop 1 words)) (Err c.in_err-count.field-0.0) = join_count_refused c.args.join words many c.in_err-count.field-0.0 c.in_err-count.ensures.says in
    search rules

pub returns-in_err-options : goal.returns-in_err-options
returns-in_err-options c =
    let words = c.args.request.now in
    let many : 4 ≤ length words = omega (arith, c.if-len-lt4.false, c.len.ensures.len) in
    let refused : ReadsZset (join_words c.args.join (drop 1 words)) (Err c.in_err-options.field-0.0) =
    join_options_refused c.args.join words many c.in_ok-count.count c.in_ok-count.ensures.says c.in_err-options.field-0.0 c.in_err-options.ensures in
    search rules

pub returns-in_err-keys : goal.returns-in_err-keys
returns-in_err-keys c =
    let words = c.args.request.now in
    let many : 4 ≤ length words = omega (arith, c.if-len-lt4.false, c.len.ensures.len) in
    let refused : ReadsZset (join_words c.args.join (drop 1 words)) (Err c.in_err-keys.field-0.0) =
    join_keys_missing c.args.join words many c.in_ok-count.count c.in_ok-count.ensures.says c.in_ok-options.options c.in_ok-options.ensures c.in_err-keys.field-0.0
    c.in_err-keys.ensures in
    search rules

pub returns : goal.returns
returns c =
    let words = c.args.request.now in
    let many : 4 ≤ length words = omega (arith, c.if-len-lt4.false, c.len.ensures.len) in
    rw c.plain.ensures
    (ap among_all
    (join_made c.args.join words many c.in_ok-count.count c.in_ok-count.ensures.says c.in_ok-options.options c.in_ok-options.ensures c.in_ok-keys.keys c.in_ok-keys.ensures))
