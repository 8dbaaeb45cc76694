use Rattle.std.proofs.Common.{[], arith, rules}
use Rattle.cmd_values.proofs.StringLemmas.{number_put}
use Rattle.std.proofs.Common.{refl}
use Rattle.string_object.specs.declared.text.Text.TheVariants.{Number}
use Rattle.keyspace.specs.declared.value.Value.TheVariants.{Text}
use Rattle.blocks.specs.Blocks.{no_step}
use Rattle.blocks.proofs.Change.{changes_same}
use Rattle.keyspace.specs.Sound.{Sound}
use Rattle.keyspace.proofs.Insides.{insides_put}
use Rattle.keyspace.specs.Forms.{Whole}
use Rattle.keyspace.proofs.Forming.{formed_put}
use Rattle.cmd_values.proofs.strings.counting.put_number.Goals as goal
use Rattle.keyspace.proofs.Forming.{whole_only}

pub returns-clause-world : goal.returns-clause-world
returns-clause-world g c = number_put c.args.at.now c.args.keyspace.now.bases c.put_sought.new.self.bases _ _ c.args.key.now c.args.n c.put_sought.result c.requires.none (search rules)

pub returns-clause-held : goal.returns-clause-held
returns-clause-held g c =
    let m = g.B.BlockStore.blocks c.args.keyspace.now.store in
    let later = g.B.BlockStore.blocks c.put_sought.new.self.store in
    let new = c.put_sought.new.self.bases in
    let sound : Sound new later = c.put_sought.ensures.sound [] [] c.requires.ready.sound (λ r. omega arith) in
    record {
      sound = sound;
      served = c.put_sought.ensures.served;
      settings = c.put_sought.ensures.settings;
      within = c.put_sought.ensures.within;
      insides = insides_put c.args.at.now.db c.args.key.now (Text (Number c.args.n)) c.args.keyspace.now.bases new m m later c.requires.ready.sound
          (changes_same m [] (λ r. omega arith)) tt no_step sound.arranged c.put_sought.ensures.within c.put_sought.result (search rules) c.put_sought.ensures.value_blocks
          c.put_sought.ensures.err_keys c.put_sought.ensures.err_blocks;
    }

pub returns-clause-forms : goal.returns-clause-forms
returns-clause-forms g c =
    formed_put Whole c.args.at.now.db c.args.key.now (Text (Number c.args.n)) c.args.keyspace.now.bases c.put_sought.new.self.bases _ _ refl (returns-clause-held g c).within
    (returns-clause-held g c).sound.arranged c.put_sought.result (search rules)

pub returns-clause-whole : goal.returns-clause-whole
returns-clause-whole g c =
    whole_only (Text (Number c.args.n)) refl c.put_sought.new.self.bases _ c.args.at.now.db c.args.key.now c.put_sought.result (search rules)
