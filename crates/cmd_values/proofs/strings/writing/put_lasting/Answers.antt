use Rattle.keyspace.specs.Values.{OfText}
use Rattle.blocks.specs.Blocks.{no_step}
use Rattle.blocks.proofs.Serve.{served_then}
use Rattle.keyspace.specs.declared.value.Value.TheVariants as values
use Rattle.keyspace.proofs.Uses.{made_intact, put_sound_in_uses, put_within_in_uses}
use Rattle.cmd_values.proofs.StringLemmas.{replaced}
use Rattle.cmd_values.proofs.Sought.{kept_seeks}
use Rattle.std.proofs.Common.{sym, subst, ap}
use Rattle.keyspace.specs.Sound.{Sound}
use Rattle.keyspace.proofs.Running.{same_settings}
use Rattle.keyspace.proofs.Serving.{unmoved}
use Rattle.keyspace.specs.Scopes.{one_key, Within}
use Rattle.keyspace.specs.Insides.{Insides}
use Rattle.keyspace.proofs.Insides.{insides_none, insides_put}
use Rattle.keyspace.specs.Forms.{Whole}
use Rattle.keyspace.proofs.Forming.{formed_put}
use Rattle.cmd_values.proofs.strings.writing.put_lasting.Goals as goal
use Rattle.keyspace.proofs.Forming.{whole_only}

pub put_sought-requires-clause-intact : goal.put_sought-requires-clause-intact
put_sought-requires-clause-intact g c = made_intact _ _ _ (values.Text c.in_ok-text.text) c.requires.ready.sound c.in_ok-text.ensures.changes tt

pub put_sought-requires-clause-seeks : goal.put_sought-requires-clause-seeks
put_sought-requires-clause-seeks g c =
    kept_seeks c.args.keyspace.now.bases _ _ c.args.at.now.db c.args.key.now c.sought_of-sought.result _ c.requires.ready.sound c.in_ok-text.ensures.changes c.sought_of-sought.ensures

pub returns-clause-world : goal.returns-clause-world
returns-clause-world g c =
    replaced c.args.at.now c.args.keyspace.now.bases _ _ c.in_ok-text.text c.requires.ready.sound c.in_ok-text.ensures.changes c.put_sought.new.self.bases _ c.args.key.now c.args.value.now
    c.args.deadline c.in_ok-text.ensures.bytes c.put_sought.result c.put_sought.ensures.means

pub returns-clause-held : goal.returns-clause-held
returns-clause-held g c =
    let m = g.B.BlockStore.blocks c.args.keyspace.now.store in
    let after = g.B.BlockStore.blocks c.make.new.store in
    let later = g.B.BlockStore.blocks c.put_sought.new.self.store in
    let bases = c.args.keyspace.now.bases in
    let new = c.put_sought.new.self.bases in
    let scope = one_key c.args.at.now.db c.args.key.now in
    let sound : Sound new later =
    put_sound_in_uses bases m after (values.Text c.in_ok-text.text) c.requires.ready.sound c.in_ok-text.ensures.changes new later c.put_sought.ensures.sound in
    let within : Within scope bases new m later =
    put_within_in_uses bases m after (values.Text c.in_ok-text.text) c.requires.ready.sound c.in_ok-text.ensures.changes new later scope c.put_sought.ensures.within in
    record {
      sound = sound;
      served = served_then _ _ _ c.in_ok-text.ensures.served c.put_sought.ensures.served;
      settings = c.put_sought.ensures.settings;
      within = within;
      insides = insides_put c.args.at.now.db c.args.key.now (values.Text c.in_ok-text.text) bases new m after later c.requires.ready.sound c.in_ok-text.ensures.changes tt no_step
          sound.arranged c.put_sought.ensures.within c.put_sought.result c.put_sought.ensures.has c.put_sought.ensures.value_blocks c.put_sought.ensures.err_keys c.put_sought.ensures.err_blocks;
    }

pub returns-in_err-text-clause-held : goal.returns-in_err-text-clause-held
returns-in_err-text-clause-held g c = record {
  sound = subst (Sound c.args.keyspace.now.bases) (sym c.in_err-text.ensures.err_blocks) c.requires.ready.sound;
  served = c.make.ensures.served;
  settings = same_settings c.args.keyspace.now.bases;
  within = subst (Within (one_key c.args.at.now.db c.args.key.now) c.args.keyspace.now.bases c.args.keyspace.now.bases (g.B.BlockStore.blocks c.args.keyspace.now.store))
      (sym c.in_err-text.ensures.err_blocks) (unmoved (one_key c.args.at.now.db c.args.key.now) c.args.keyspace.now.bases (g.B.BlockStore.blocks c.args.keyspace.now.store));
  insides = subst (λ b. Insides (one_key c.args.at.now.db c.args.key.now) c.args.keyspace.now.bases c.args.keyspace.now.bases (g.B.BlockStore.blocks c.args.keyspace.now.store) b)
      (sym c.in_err-text.ensures.err_blocks) (insides_none (one_key c.args.at.now.db c.args.key.now) c.args.keyspace.now.bases (g.B.BlockStore.blocks c.args.keyspace.now.store));
}

pub returns-clause-forms : goal.returns-clause-forms
returns-clause-forms g c =
    formed_put Whole c.args.at.now.db c.args.key.now (values.Text c.in_ok-text.text) c.args.keyspace.now.bases c.put_sought.new.self.bases (g.B.BlockStore.blocks c.args.keyspace.now.store)
    _ (ap OfText c.in_ok-text.ensures.whole) (returns-clause-held g c).within (returns-clause-held g c).sound.arranged c.put_sought.result c.put_sought.ensures.has

pub returns-clause-whole : goal.returns-clause-whole
returns-clause-whole g c =
    whole_only (values.Text c.in_ok-text.text) (ap OfText c.in_ok-text.ensures.whole) c.put_sought.new.self.bases _ c.args.at.now.db c.args.key.now c.put_sought.result
    c.put_sought.ensures.has
