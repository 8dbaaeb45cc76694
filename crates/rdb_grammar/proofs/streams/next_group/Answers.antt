use Rattle.rdb_grammar.specs.StreamParts.{group_last}
use Rattle.rdb_grammar.specs.Views.{pair_of}
use Rattle.rdb_grammar.proofs.StreamsExact.{group_last_exact}
use Rattle.rdb_grammar.proofs.PlacedReads.{rest_fits, left_fits, placed_stands, placed_fails}
use Rattle.rdb_grammar.proofs.streams.next_group.Goals as goal

pub placed-requires-clause-rest : goal.placed-requires-clause-rest
placed-requires-clause-rest c = rest_fits (group_last c.args.stream) (group_last_exact c.args.stream) pair_of c.args.bytes.now c.args.at c.group_last_of.result c.requires c.group_last_of.ensures

pub placed-requires-clause-left : goal.placed-requires-clause-left
placed-requires-clause-left c = left_fits (group_last c.args.stream) (group_last_exact c.args.stream) pair_of c.args.bytes.now c.args.at c.group_last_of.result c.requires c.group_last_of.ensures

pub returns-clause-last : goal.returns-clause-last
returns-clause-last c =
    placed_stands (group_last c.args.stream) (group_last_exact c.args.stream) pair_of c.args.bytes.now c.args.at c.group_last_of.result c.placed.result c.requires c.group_last_of.ensures
    (record { ok = c.placed.ensures.ok; err = c.placed.ensures.err })

pub returns-clause-fault : goal.returns-clause-fault
returns-clause-fault c =
    placed_fails (group_last c.args.stream) (group_last_exact c.args.stream) pair_of c.args.bytes.now c.args.at c.group_last_of.result c.placed.result c.requires c.group_last_of.ensures
    (record { ok = c.placed.ensures.ok; err = c.placed.ensures.err })
