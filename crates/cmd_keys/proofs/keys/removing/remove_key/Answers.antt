use Rattle.std.proofs.Common.{[], ap, ◌∙◌}
use Rattle.plain_world.specs.Worlds.{live}
use Rattle.plain_world.proofs.Lives.{live_remove}
use Rattle.keyspace.specs.Databases.{means}
use Rattle.keyspace.proofs.Seen.{sought_there}
use Rattle.keyspace.specs.Scopes.{no_key}
use Rattle.keyspace.specs.Commands.{visible}
use Rattle.keyspace.proofs.Running.{held_unwritten}
use Rattle.cmd_keys.proofs.keys.removing.remove_key.Goals as goal

pub returns-clause-world : goal.returns-clause-world
returns-clause-world g c =
    let at = c.args.at.now in
    ap (λ w. live w at.moment) c.drop_hashed.ensures.means ∙ live_remove (means at.db c.args.keyspace.now.bases (g.B.BlockStore.blocks c.args.keyspace.now.store)) at.moment c.args.key.now

pub returns-clause-held : goal.returns-clause-held
returns-clause-held g c =
    held_unwritten g.B.BlockStore.blocks g.B.BlockStore.step (no_key c.args.at.now.db) c.args.keyspace.now c.drop_hashed.new.self (λ number key no. no.1) c.requires.ready.sound
    (c.drop_hashed.ensures.sound [] c.requires.ready.sound) c.drop_hashed.ensures.served c.drop_hashed.ensures.settings c.drop_hashed.ensures.within

pub returns-clause-there : goal.returns-clause-there
returns-clause-there g c =
    c.is_some.ensures ∙ sought_there (visible g.B.BlockStore.blocks c.args.keyspace.now c.args.at.now) c.args.key.now c.seek-found.result.there c.seek-found.result.deadline
    c.seek-found.ensures.until c.seek-found.ensures.gone
