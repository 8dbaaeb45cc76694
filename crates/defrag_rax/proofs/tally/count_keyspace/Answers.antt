use Rattle.std.proofs.Common.{◌∙◌, ap, sym}
use Rattle.held.specs.Table.{item}
use Rattle.defrag_rax.proofs.tally.count_keyspace.Goals as goal

pub count_table-requires : goal.count_table-requires
count_table-requires c =
    let a = c.requires.arranged in
    (c.args.keyspace.now.bases.limits, c.args.keyspace.now.bases.seed, λ at e found. a.values c.loop-db.db at e (ap (λ t. item t at) (sym c.table.ensures) ∙ found))
