use Rattle.std.proofs.Common.{◌+◌, ◌≤◌, Err, length, drop, w64, SFits, arith, rules}
use Rattle.std.proofs.lemmas.Int.{to_z-of_z}
use Rattle.command_words.specs.Readings.{Tells, own_limit}
use Rattle.command_words.proofs.RangeWords.{limit_made, limit_count_refused}
use Rattle.command_words.proofs.zset_options.own_limit.Goals as goal

pub returns-in_err-count : goal.returns-in_err-count
returns-in_err-count c =
    let words = c.args.request.now in
    let many : c.args.index + 3 ≤ length words = omega (arith, c.if-len-index-lt3.false, c.len.ensures.len, c.requires) in
    let refused : Tells (own_limit (drop (c.args.index + 1) words)) (Err c.in_err-count.field-0.0) =
    limit_count_refused words c.args.index c.in_ok-offset.offset c.in_err-count.field-0.0 many c.in_ok-offset.ensures c.in_err-count.ensures in
    search rules

pub returns : goal.returns
returns c =
    let words = c.args.request.now in
    let many : c.args.index + 3 ≤ length words = omega (arith, c.if-len-index-lt3.false, c.len.ensures.len, c.requires) in
    let a : SFits w64 c.in_ok-offset.offset = search rules in
    let b : SFits w64 c.in_ok-count.count = search rules in
    rw (to_z-of_z w64 c.in_ok-offset.offset a, to_z-of_z w64 c.in_ok-count.count b)
    (limit_made words c.args.index c.in_ok-offset.offset c.in_ok-count.count many c.in_ok-offset.ensures c.in_ok-count.ensures)
