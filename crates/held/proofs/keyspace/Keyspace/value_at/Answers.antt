use Rattle.held.proofs.Calls.{found_held}
use Rattle.held.proofs.keyspace.Keyspace.value_at.Goals as goal

pub returns : goal.returns
returns g c key moment there = found_held g.V.Stored.refs_of g.V.Stored.value_of g.met.V.Stored.reads_own c.args.self.now.bases c.args.db moment
    (g.B.BlockStore.blocks c.args.self.now.store) key c.args.at c.value.result.now c.requires.intact there c.value.ensures
