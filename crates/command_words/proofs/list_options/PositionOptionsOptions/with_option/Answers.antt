use Rattle.std.proofs.Common.{◌≡◌, ◌+◌, Err, drop, ap, rules}
use Rattle.std.specs.Prelude.{codes}
use Rattle.plain_world.specs.Words.{in_lower_case}
use Rattle.plain_model.specs.Shapes.{Amount, option_of, read_option}
use Rattle.plain_model.specs.ListWords.{position_options}
use Rattle.command_words.specs.Readings.{Tells, word_at}
use Rattle.command_words.proofs.OptionWords.{one_word_refused}
use Rattle.command_words.proofs.list_options.PositionOptionsOptions.with_option.Goals as goal

pub returns-in_err-most : goal.returns-in_err-most
returns-in_err-most c =
    let lower = in_lower_case (word_at c.args.request.now c.args.index) in
    let named : lower ≡ codes "maxlen" = search rules in
    let rest = drop (c.args.index + 1) c.args.request.now in
    let refused : Tells (read_option c.args.self (option_of position_options lower) rest) (Err c.in_err-most.field-0.0) =
    one_word_refused c.args.self Amount (λ own o. record { rank = o.rank; count = o.count; most = own.0 }) position_options (codes "maxlen") lower rest c.in_err-most.field-0.0
    (ap (option_of position_options) named) c.in_err-most.ensures in
    search rules
