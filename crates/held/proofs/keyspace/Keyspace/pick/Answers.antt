use Rattle.std.proofs.Common.{arith}
use Rattle.held.proofs.Picking.{none_then, none_below, none_around}
use Rattle.held.proofs.keyspace.Keyspace.pick.Goals as goal

pub returns-then-top-eq0-clause-none : goal.returns-then-top-eq0-clause-none
returns-then-top-eq0-clause-none g c =
    none_below g.V.Stored.refs_of g.V.Stored.value_of g.met.V.Stored.reads_own c.args.self.now.bases c.args.db c.args.moment (g.B.BlockStore.blocks c.args.self.now.store)
    c.requires.intact.arranged c.table.result.now c.top-top.result c.table.ensures c.top-top.ensures.above (λ at key below s. absurd (omega (arith, below, c.if-top-eq0.true)))

pub returns-in-None-clause-none : goal.returns-in-None-clause-none
returns-in-None-clause-none g c =
    none_then c.first_there-in-None.result c.first_there-in-None.ensures.none
    (λ before. none_below g.V.Stored.refs_of g.V.Stored.value_of g.met.V.Stored.reads_own c.args.self.now.bases c.args.db c.args.moment (g.B.BlockStore.blocks c.args.self.now.store)
    c.requires.intact.arranged c.table.result.now c.top-top.result c.table.ensures c.top-top.ensures.above
    (none_around g.V.Stored.refs_of g.V.Stored.value_of g.met.V.Stored.reads_own c.args.self.now.bases c.args.db c.args.moment (g.B.BlockStore.blocks c.args.self.now.store)
    c.requires.intact.arranged _ c.top-top.result c.in-None.ensures.none before))
