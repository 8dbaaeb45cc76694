use Rattle.std.proofs.Common.{sym, ◌∙◌}
use Rattle.held.proofs.Calls.{deadline_seen, deadline_latest}
use Rattle.held.proofs.keyspace.Keyspace.deadline.Goals as goal

pub returns-clause-value : goal.returns-clause-value
returns-clause-value g c = sym c.deadline.ensures.value ∙ deadline_seen g.V.Stored.refs_of g.V.Stored.value_of g.met.V.Stored.reads_own c.args.self.now.bases c.args.db
    (g.B.BlockStore.blocks c.args.self.now.store) c.requires.intact.arranged c.args.key.now

pub returns-clause-latest : goal.returns-clause-latest
returns-clause-latest g c = deadline_latest g.V.Stored.refs_of g.V.Stored.value_of g.met.V.Stored.reads_own c.args.self.now.bases c.args.db (g.B.BlockStore.blocks c.args.self.now.store)
    c.requires.intact.arranged c.args.key.now c.deadline.result c.deadline.ensures.found
