use Rattle.std.proofs.Common.{[]}
use Rattle.keyspace.specs.Databases.{means}
use Rattle.cmd_keys.proofs.Moving.{seen_moved}
use Rattle.keyspace.specs.Scopes.{two_keys}
use Rattle.keyspace.proofs.Insides.{insides_moved, insides_items}
use Rattle.keyspace.proofs.Forming.{formed_moved}
use Rattle.cmd_keys.proofs.keys.moving.move_to.Goals as goal

pub returns-in-Ok-clause-world : goal.returns-in-Ok-clause-world
returns-in-Ok-clause-world g c =
    let blocks = g.B.BlockStore.blocks in
    λ entry seen. seen_moved (means c.args.at.now.db c.args.keyspace.now.bases (blocks c.args.keyspace.now.store))
    (means c.args.at.now.db c.rename_sought.new.self.bases (blocks c.rename_sought.new.self.store))
    c.args.at.now.moment c.args.from.now c.args.to.now c.args.number entry seen (c.in-Ok.ensures.means c.requires.apart)

pub returns-in-Ok-clause-held : goal.returns-in-Ok-clause-held
returns-in-Ok-clause-held g c = record {
  sound = c.rename_sought.ensures.sound [] c.requires.ready.sound;
  served = c.rename_sought.ensures.served;
  settings = c.rename_sought.ensures.settings;
  within = c.rename_sought.ensures.within;
  insides = insides_moved c.args.at.now.db c.args.from.now c.args.number c.args.to.now c.args.keyspace.now.bases c.rename_sought.new.self.bases
      (g.B.BlockStore.blocks c.args.keyspace.now.store) (g.B.BlockStore.blocks c.rename_sought.new.self.store) c.requires.ready.sound.arranged c.rename_sought.ensures.within
      (c.in-Ok.ensures.writes [] c.requires.ready.sound);
}

pub returns-in-Err-clause-held : goal.returns-in-Err-clause-held
returns-in-Err-clause-held g c = record {
  sound = c.rename_sought.ensures.sound [] c.requires.ready.sound;
  served = c.rename_sought.ensures.served;
  settings = c.rename_sought.ensures.settings;
  within = c.rename_sought.ensures.within;
  insides = insides_items (two_keys c.args.at.now.db c.args.from.now c.args.number c.args.to.now) c.args.keyspace.now.bases c.rename_sought.new.self.bases
      (g.B.BlockStore.blocks c.args.keyspace.now.store) (g.B.BlockStore.blocks c.rename_sought.new.self.store) c.in-Err.ensures.err_items c.in-Err.ensures.err_blocks;
}

pub returns-in-Ok-clause-forms : goal.returns-in-Ok-clause-forms
returns-in-Ok-clause-forms g c = formed_moved c.args.at.now.db c.args.from.now c.args.keyspace.now.bases c.rename_sought.new.self.bases _ _ (c.in-Ok.ensures.writes [] c.requires.ready.sound)
