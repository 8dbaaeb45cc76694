use Rattle.blocks.specs.Blocks.{no_step}
use Rattle.held.proofs.Purging.{thins_one}
use Rattle.held.specs.Scopes.{no_key}
use Rattle.held.proofs.Within.{within_none}
use Rattle.held.proofs.keyspace.Keyspace.drop_passed.Goals as goal

pub returns-in_default-clause-served : goal.returns-in_default-clause-served
returns-in_default-clause-served g c = no_step

pub returns-clause-thins : goal.returns-clause-thins
returns-clause-thins g c =
    thins_one g.V.Stored.refs_of g.V.Stored.value_of g.met.V.Stored.reads_own c.args.self.now.bases c.drop_named.new.self.bases (g.B.BlockStore.blocks c.args.self.now.store)
    (g.B.BlockStore.blocks c.drop_named.new.self.store) c.args.db c.args.moment c.args.at c.in-Some.name c.requires.intact.arranged c.in-Some.ensures.passed c.drop_named.ensures.means
    c.drop_named.ensures.loses

pub returns-in_default-clause-within : goal.returns-in_default-clause-within
returns-in_default-clause-within g c = within_none g.V.Stored.refs_of (no_key c.args.db) c.args.self.now.bases (g.B.BlockStore.blocks c.args.self.now.store)
