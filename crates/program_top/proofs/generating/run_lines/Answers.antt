use Rattle.std.proofs.Common.{◌∙◌}
use Rattle.std.proofs.lemmas.Result.{IfOk-weaker}
use Rattle.program_top.specs.WordsRead.{options_read}
use Rattle.program_top.proofs.Generations.{is_count, generates_on}
use Rattle.program_top.proofs.Worlds.{conducted}
use Rattle.program_top.proofs.generating.run_lines.Goals as goal

pub count_in-requires : goal.count_in-requires
count_in-requires g c = is_count c.args.options.seed c.args.count c.in_ok-sums.sums.crc _ _ c.in_ok-sums.sums.size c.in_ok-sums.ensures

pub returns : goal.returns
returns g c =
    IfOk-weaker c.lines.result _ _
    (λ text are. generates_on (options_read c.args.options) c.args.count _ _ text.items c.in-Ok.engine _ c.in_ok-sums.sums.size c.count_in.result c.in_ok-sums.sums.crc
    c.in-Ok.ensures.begun (c.new-conductor.ensures ∙ conducted _ _ _) c.in_ok-sums.ensures c.count_in.ensures are) c.lines.ensures
