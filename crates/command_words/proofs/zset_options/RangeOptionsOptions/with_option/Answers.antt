use Rattle.std.proofs.Common.{◌≡◌, ◌+◌, Err, drop, ap, rules}
use Rattle.std.specs.Prelude.{codes}
use Rattle.plain_world.specs.Words.{in_lower_case}
use Rattle.plain_model.specs.Shapes.{option_of, read_option}
use Rattle.plain_model.specs.ZsetWords.{range_options}
use Rattle.command_words.specs.Readings.{Tells, word_at}
use Rattle.command_words.proofs.RangeWords.{limit_refused}
use Rattle.command_words.proofs.zset_options.RangeOptionsOptions.with_option.Goals as goal

pub returns-in_err-own_limit : goal.returns-in_err-own_limit
returns-in_err-own_limit c =
    let lower = in_lower_case (word_at c.args.request.now c.args.index) in
    let named : lower ≡ codes "limit" = search rules in
    let rest = drop (c.args.index + 1) c.args.request.now in
    let fault = c.in_err-own_limit.field-0.0 in
    let refused : Tells (read_option c.args.self (option_of range_options lower) rest) (Err fault) =
    limit_refused c.args.self range_options lower rest fault (ap (option_of range_options) named) c.in_err-own_limit.ensures in
    search rules
