use Rattle.std.proofs.Common.{[], sym, ap, ◌∙◌}
use Rattle.rehash_dict.specs.Keyed.{hash_of}
use Rattle.plain_world.specs.Worlds.{live}
use Rattle.plain_world.proofs.Lives.{live_remove}
use Rattle.keyspace.specs.Databases.{means}
use Rattle.keyspace.specs.Scopes.{no_key}
use Rattle.keyspace.proofs.Running.{held_unwritten}
use Rattle.keyspace.proofs.Absent.{none_stands}
use Rattle.keyspace.proofs.edit.drop_sought.Goals as goal

pub drop_hashed-requires-clause-hashed : goal.drop_hashed-requires-clause-hashed
drop_hashed-requires-clause-hashed g c =
    c.requires.hashed ∙ ap (λ seed. hash_of seed c.args.key.now) (sym (c.requires.ready.sound.arranged.seeds c.args.at.now.db c.requires.ready.db).keys)

pub returns-clause-world : goal.returns-clause-world
returns-clause-world g c =
    ap (λ w. live w c.args.at.now.moment) c.drop_hashed.ensures.means
    ∙ live_remove (means c.args.at.now.db c.args.keyspace.now.bases (g.B.BlockStore.blocks c.args.keyspace.now.store)) c.args.at.now.moment c.args.key.now

pub returns-clause-held : goal.returns-clause-held
returns-clause-held g c =
    held_unwritten g.B.BlockStore.blocks g.B.BlockStore.step (no_key c.args.at.now.db) c.args.keyspace.now c.drop_hashed.new.self (λ number key no. no.1) c.requires.ready.sound
    (c.drop_hashed.ensures.sound [] c.requires.ready.sound) c.drop_hashed.ensures.served c.drop_hashed.ensures.settings c.drop_hashed.ensures.within

pub returns-clause-gone : goal.returns-clause-gone
returns-clause-gone g c =
    let blocks = g.B.BlockStore.blocks in
    none_stands c.args.keyspace.now.bases c.drop_hashed.new.self.bases (blocks c.args.keyspace.now.store) (blocks c.drop_hashed.new.self.store) c.args.at.now.db c.args.key.now
    (c.drop_hashed.ensures.sound [] c.requires.ready.sound).arranged c.drop_hashed.ensures.means
