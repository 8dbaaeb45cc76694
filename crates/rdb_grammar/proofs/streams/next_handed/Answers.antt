use Rattle.rdb_grammar.specs.StreamParts.{handed}
use Rattle.rdb_grammar.specs.Views.{handed_of}
use Rattle.rdb_grammar.proofs.StreamsExact.{handed_exact}
use Rattle.rdb_grammar.proofs.PlacedReads.{rest_fits, left_fits, placed_stands, placed_fails}
use Rattle.rdb_grammar.proofs.streams.next_handed.Goals as goal

pub placed-requires-clause-rest : goal.placed-requires-clause-rest
placed-requires-clause-rest c = rest_fits handed handed_exact handed_of c.args.bytes.now c.args.at c.handed_of.result c.requires c.handed_of.ensures

pub placed-requires-clause-left : goal.placed-requires-clause-left
placed-requires-clause-left c = left_fits handed handed_exact handed_of c.args.bytes.now c.args.at c.handed_of.result c.requires c.handed_of.ensures

pub returns-clause-handed : goal.returns-clause-handed
returns-clause-handed c =
    placed_stands handed handed_exact handed_of c.args.bytes.now c.args.at c.handed_of.result c.placed.result c.requires c.handed_of.ensures
    (record { ok = c.placed.ensures.ok; err = c.placed.ensures.err })

pub returns-clause-fault : goal.returns-clause-fault
returns-clause-fault c =
    placed_fails handed handed_exact handed_of c.args.bytes.now c.args.at c.handed_of.result c.placed.result c.requires c.handed_of.ensures
    (record { ok = c.placed.ensures.ok; err = c.placed.ensures.err })
