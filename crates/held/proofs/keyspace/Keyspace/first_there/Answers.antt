use Rattle.std.proofs.Common.{arith}
use Rattle.held.proofs.Picking.{there_seen}
use Rattle.held.proofs.keyspace.Keyspace.first_there.Goals as goal

pub returns-in-Some-clause-found : goal.returns-in-Some-clause-found
returns-in-Some-clause-found g c =
    there_seen g.V.Stored.refs_of g.V.Stored.value_of g.met.V.Stored.reads_own c.args.self.now.bases c.args.db c.args.moment (g.B.BlockStore.blocks c.args.self.now.store)
    c.requires.arranged _ c.in-Some.key.now c.in-Some.ensures.found

pub returns-clause-none : goal.returns-clause-none
returns-clause-none g c at key above below s = c.loop-at.invariant at key above (omega (arith, below, c.loop-at-test.false)) s
