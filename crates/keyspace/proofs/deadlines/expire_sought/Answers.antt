use Rattle.std.proofs.Common.{[], rules}
use Rattle.keyspace.specs.Databases.{means}
use Rattle.keyspace.specs.Scopes.{no_key}
use Rattle.keyspace.proofs.Running.{same_held, held_unwritten}
use Rattle.keyspace.proofs.Seen.{expire_now}
use Rattle.keyspace.proofs.deadlines.expire_sought.Goals as goal

pub returns-in-None-clause-held : goal.returns-in-None-clause-held
returns-in-None-clause-held g c = same_held g.B.BlockStore.blocks g.B.BlockStore.step (no_key c.args.at.now.db) c.args.keyspace.now c.requires.ready.sound

pub returns-else-from-clause-world : goal.returns-else-from-clause-world
returns-else-from-clause-world g c =
    expire_now (means c.args.at.now.db c.args.keyspace.now.bases (g.B.BlockStore.blocks c.args.keyspace.now.store))
    (means c.args.at.now.db c.drop_hashed.new.self.bases (g.B.BlockStore.blocks c.drop_hashed.new.self.store)) c.args.at.now.moment c.args.key.now c.args.due _
    (rw c.in-Some.is at c.requires.sees.until).stands (search rules) c.drop_hashed.ensures.means

pub returns-else-from-clause-held : goal.returns-else-from-clause-held
returns-else-from-clause-held g c =
    held_unwritten g.B.BlockStore.blocks g.B.BlockStore.step (no_key c.args.at.now.db) c.args.keyspace.now c.drop_hashed.new.self (λ number key no. no.1) c.requires.ready.sound
    (c.drop_hashed.ensures.sound [] c.requires.ready.sound) c.drop_hashed.ensures.served c.drop_hashed.ensures.settings c.drop_hashed.ensures.within
