use Rattle.std.proofs.Common.{subst}
use Rattle.blocks.proofs.Serve.{served_then}
use Rattle.rehash_dict.specs.Grown.{Grown}
use Rattle.rehash_dict.specs.Keyed.{hash_of}
use Rattle.keyspace.specs.Values.{value_tables}
use Rattle.keyspace.specs.Sound.{Sound}
use Rattle.keyspace.specs.Scopes.{one_key, Within}
use Rattle.keyspace.proofs.Running.{same_settings}
use Rattle.keyspace.proofs.Founding.{new_intact, new_seeks, new_sound, new_within, new_insides, undone_sound, undone_within, undone_insides, makes_new}
use Rattle.keyspace.proofs.edit.edit_new.Goals as goal

pub put_sought-requires-clause-intact : goal.put_sought-requires-clause-intact
put_sought-requires-clause-intact g c =
    let bases = c.args.keyspace.now.bases in
    new_intact c.args.at.now bases (g.B.BlockStore.blocks c.args.keyspace.now.store) (g.B.BlockStore.blocks c.edit.new.store) c.args.key.now c.args.fresh c.edit.new.value
    c.requires.ready.sound c.requires.blank c.edit.ensures.changes (c.edit.ensures.sound bases.limits bases.seed c.requires.sound)

pub put_sought-requires-clause-seeks : goal.put_sought-requires-clause-seeks
put_sought-requires-clause-seeks g c =
    new_seeks c.args.at.now c.args.keyspace.now.bases (g.B.BlockStore.blocks c.args.keyspace.now.store) (g.B.BlockStore.blocks c.edit.new.store) c.args.key.now c.args.fresh
    c.edit.new.value c.requires.ready.sound c.requires.blank c.edit.ensures.changes c.args.sought c.requires.seeks

pub release-requires-clause-sound : goal.release-requires-clause-sound
release-requires-clause-sound g c =
    let bases = c.args.keyspace.now.bases in
    (bases.limits, bases.seed, c.edit.ensures.sound bases.limits bases.seed c.requires.sound)

pub returns-in-Ok-clause-made : goal.returns-in-Ok-clause-made
returns-in-Ok-clause-made g c =
    let blocks = g.B.BlockStore.blocks in
    makes_new g.E.Edit.makes c.args.edit.now c.edit.new.self blocks c.args.keyspace.now c.put_sought.new.self c.args.at.now c.args.key.now c.args.fresh c.edit.new.value
    (blocks c.edit.new.store) c.requires.ready.sound c.requires.blank c.edit.ensures.changes c.in-Ok.ensures.makes c.put_sought.result c.put_sought.ensures.means
    c.put_sought.ensures.has

pub returns-in-Ok-clause-held : goal.returns-in-Ok-clause-held
returns-in-Ok-clause-held g c =
    let blocks = g.B.BlockStore.blocks in
    let bases = c.args.keyspace.now.bases in
    let m = blocks c.args.keyspace.now.store in
    let after = blocks c.edit.new.store in
    let later = blocks c.put_sought.new.self.store in
    let sound : Sound c.put_sought.new.self.bases later =
    new_sound c.args.at.now bases m after c.args.key.now c.args.fresh c.edit.new.value c.requires.ready.sound c.requires.blank c.edit.ensures.changes c.put_sought.new.self.bases later
    c.put_sought.ensures.sound in
    let within : Within (one_key c.args.at.now.db c.args.key.now) bases c.put_sought.new.self.bases m later =
    new_within c.args.at.now bases m after c.args.key.now c.args.fresh c.edit.new.value c.requires.ready.sound c.requires.blank c.edit.ensures.changes c.put_sought.new.self.bases later
    (one_key c.args.at.now.db c.args.key.now) c.put_sought.ensures.within in
    record {
      sound = sound;
      served = served_then _ _ _ c.edit.ensures.served c.put_sought.ensures.served;
      settings = c.put_sought.ensures.settings;
      within = within;
      insides = new_insides c.args.at.now bases m after c.args.key.now c.args.fresh c.edit.new.value c.requires.ready.sound c.requires.blank c.edit.ensures.changes
          (c.edit.ensures.sound bases.limits bases.seed c.requires.sound)
          (subst (λ t. Grown (hash_of bases.seed) t (value_tables after c.edit.new.value)) c.requires.bare (c.edit.ensures.grown bases.limits bases.seed c.requires.sound))
          c.put_sought.new.self.bases later sound.arranged c.put_sought.ensures.within c.put_sought.result c.put_sought.ensures.has c.put_sought.ensures.value_blocks c.put_sought.ensures.err_keys
          c.put_sought.ensures.err_blocks;
    }

pub returns-in-Err-clause-held : goal.returns-in-Err-clause-held
returns-in-Err-clause-held g c =
    let blocks = g.B.BlockStore.blocks in
    let bases = c.args.keyspace.now.bases in
    let m = blocks c.args.keyspace.now.store in
    let after = blocks c.edit.new.store in
    let later = blocks c.release.new.store in
    record {
      sound = undone_sound c.args.at.now bases m after c.args.key.now c.args.fresh c.edit.new.value c.requires.ready.sound c.requires.blank c.edit.ensures.changes later c.release.ensures.changes;
      served = served_then _ _ _ c.edit.ensures.served c.release.ensures.served;
      settings = same_settings bases;
      within = undone_within c.args.at.now bases m after c.args.key.now c.args.fresh c.edit.new.value c.requires.ready.sound c.requires.blank c.edit.ensures.changes later
          c.release.ensures.changes (one_key c.args.at.now.db c.args.key.now);
      insides = undone_insides c.args.at.now bases m after c.args.key.now c.args.fresh c.edit.new.value c.requires.ready.sound c.requires.blank c.edit.ensures.changes later
          c.release.ensures.changes (one_key c.args.at.now.db c.args.key.now);
    }
