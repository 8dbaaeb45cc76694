use Rattle.rdb_grammar.specs.StreamParts.{two_lengths}
use Rattle.rdb_grammar.specs.Views.{pair_of}
use Rattle.rdb_grammar.proofs.StreamsExact.{two_lengths_exact}
use Rattle.rdb_grammar.proofs.PlacedReads.{rest_fits, left_fits, placed_stands, placed_fails}
use Rattle.rdb_grammar.proofs.streams.next_id.Goals as goal

pub placed-requires-clause-rest : goal.placed-requires-clause-rest
placed-requires-clause-rest c = rest_fits two_lengths two_lengths_exact pair_of c.args.bytes.now c.args.at c.id_of.result c.requires c.id_of.ensures

pub placed-requires-clause-left : goal.placed-requires-clause-left
placed-requires-clause-left c = left_fits two_lengths two_lengths_exact pair_of c.args.bytes.now c.args.at c.id_of.result c.requires c.id_of.ensures

pub returns-clause-id : goal.returns-clause-id
returns-clause-id c =
    placed_stands two_lengths two_lengths_exact pair_of c.args.bytes.now c.args.at c.id_of.result c.placed.result c.requires c.id_of.ensures
    (record { ok = c.placed.ensures.ok; err = c.placed.ensures.err })

pub returns-clause-fault : goal.returns-clause-fault
returns-clause-fault c =
    placed_fails two_lengths two_lengths_exact pair_of c.args.bytes.now c.args.at c.id_of.result c.placed.result c.requires c.id_of.ensures
    (record { ok = c.placed.ensures.ok; err = c.placed.ensures.err })
