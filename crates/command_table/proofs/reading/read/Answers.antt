use Rattle.std.proofs.Common.{◌<◌, ◌∙◌, length, sym, ap, rules}
use Rattle.plain_world.specs.Words.{IsRequest, in_lower_case}
use Rattle.command_table.proofs.Names.{reads_by_name, asked}
use Rattle.command_table.proofs.reading.read.Goals as goal

pub returns-in-Some-clause-reads : goal.returns-in-Some-clause-reads
returns-in-Some-clause-reads c =
    let words = c.args.request.now in
    let some : 0 < length words = search rules in
    reads_by_name words c.in-Some.name c.read_named.result some (ap in_lower_case (sym c.word.ensures) ∙ c.in-Some.ensures) c.read_named.ensures

pub returns-in-Some-clause-asked : goal.returns-in-Some-clause-asked
returns-in-Some-clause-asked c =
    let words = c.args.request.now in
    let request : IsRequest words = search rules in
    asked words c.read_named.result request
    (reads_by_name words c.in-Some.name c.read_named.result request.some (ap in_lower_case (sym c.word.ensures) ∙ c.in-Some.ensures) c.read_named.ensures)
