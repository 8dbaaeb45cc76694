use Rattle.rdb_grammar.specs.Strings.{string}
use Rattle.rdb_grammar.specs.Views.{text_of}
use Rattle.rdb_grammar.proofs.PartsExact.{string_exact}
use Rattle.rdb_grammar.proofs.PlacedReads.{rest_fits, left_fits, placed_stands, placed_fails}
use Rattle.rdb_grammar.proofs.elements.next_string.Goals as goal

pub placed-requires-clause-rest : goal.placed-requires-clause-rest
placed-requires-clause-rest c = rest_fits string string_exact text_of c.args.bytes.now c.args.at c.string_of.result c.requires c.string_of.ensures

pub placed-requires-clause-left : goal.placed-requires-clause-left
placed-requires-clause-left c = left_fits string string_exact text_of c.args.bytes.now c.args.at c.string_of.result c.requires c.string_of.ensures

pub returns-clause-string : goal.returns-clause-string
returns-clause-string c =
    placed_stands string string_exact text_of c.args.bytes.now c.args.at c.string_of.result c.placed.result c.requires c.string_of.ensures
    (record { ok = c.placed.ensures.ok; err = c.placed.ensures.err })

pub returns-clause-fault : goal.returns-clause-fault
returns-clause-fault c =
    placed_fails string string_exact text_of c.args.bytes.now c.args.at c.string_of.result c.placed.result c.requires c.string_of.ensures
    (record { ok = c.placed.ensures.ok; err = c.placed.ensures.err })
