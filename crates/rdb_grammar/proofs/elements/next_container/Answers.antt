use Rattle.rdb_grammar.specs.Layouts.{container}
use Rattle.rdb_grammar.specs.Views.{container_of}
use Rattle.rdb_grammar.proofs.PartsExact.{container_exact}
use Rattle.rdb_grammar.proofs.PlacedReads.{rest_fits, left_fits, placed_stands, placed_fails}
use Rattle.rdb_grammar.proofs.elements.next_container.Goals as goal

pub placed-requires-clause-rest : goal.placed-requires-clause-rest
placed-requires-clause-rest c = rest_fits container container_exact container_of c.args.bytes.now c.args.at c.container_at.result c.requires c.container_at.ensures

pub placed-requires-clause-left : goal.placed-requires-clause-left
placed-requires-clause-left c = left_fits container container_exact container_of c.args.bytes.now c.args.at c.container_at.result c.requires c.container_at.ensures

pub returns-clause-container : goal.returns-clause-container
returns-clause-container c =
    placed_stands container container_exact container_of c.args.bytes.now c.args.at c.container_at.result c.placed.result c.requires c.container_at.ensures
    (record { ok = c.placed.ensures.ok; err = c.placed.ensures.err })

pub returns-clause-fault : goal.returns-clause-fault
returns-clause-fault c =
    placed_fails container container_exact container_of c.args.bytes.now c.args.at c.container_at.result c.placed.result c.requires c.container_at.ensures
    (record { ok = c.placed.ensures.ok; err = c.placed.ensures.err })
