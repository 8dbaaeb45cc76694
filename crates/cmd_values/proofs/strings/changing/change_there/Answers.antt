use Rattle.keyspace.specs.Values.{OfText}
use Rattle.cmd_values.proofs.Lowering.{lifted_there}
use Rattle.std.proofs.Common.{rules, [], refl, ap}
use Rattle.held.specs.Calls.{HasOnly}
use Rattle.keyspace.specs.declared.value.Value.TheVariants as values
use Rattle.keyspace.specs.Sound.{Sound}
use Rattle.keyspace.specs.Scopes.{one_key, Within}
use Rattle.keyspace.proofs.Insides.{insides_bare}
use Rattle.cmd_values.proofs.Lowering.{text_intact, text_sound, text_within, text_has, text_becomes}
use Rattle.std.proofs.Common.{sym, subst}
use Rattle.keyspace.specs.Values.{IsRaw}
use Rattle.cmd_values.specs.Changed.{changed}
use Rattle.cmd_values.proofs.strings.changing.change_there.Goals as goal

pub lower-requires-clause-intact : goal.lower-requires-clause-intact
lower-requires-clause-intact g c =
    text_intact c.args.at.now _ _ _ _ _ c.args.key.now c.in-Some.lifted c.into_text-text.result c.change_text-done.new.text c.into_text-text.ensures (ap g.B.BlockStore.blocks c.in-Some.ensures.store)
    c.in-Some.ensures.lifts (c.in-Some.ensures.sound [] c.requires.ready.sound) c.change_text-done.ensures.changes

pub returns-in-Ok-clause-held : goal.returns-in-Ok-clause-held
returns-in-Ok-clause-held g c =
    let blocks = g.B.BlockStore.blocks in
    let db = c.args.at.now.db in
    let key = c.args.key.now in
    let bases = c.args.keyspace.now.bases in
    let new = c.lower.new.self.bases in
    let m = blocks c.args.keyspace.now.store in
    let later = blocks c.lower.new.self.store in
    let text = c.change_text-done.new.text in
    let sound : Sound new later =
    text_sound c.args.at.now _ _ _ _ _ c.args.key.now c.in-Some.lifted c.into_text-text.result c.change_text-done.new.text c.into_text-text.ensures (ap g.B.BlockStore.blocks c.in-Some.ensures.store)
    c.in-Some.ensures.lifts (c.in-Some.ensures.sound [] c.requires.ready.sound) c.change_text-done.ensures.changes _ _ (ap g.B.BlockStore.blocks c.lower.ensures.store) c.lower.ensures.sound in
    let within : Within (one_key db key) bases new m later =
    text_within c.args.at.now c.args.keyspace.now.bases c.lift.new.self.bases _ _ _ c.args.key.now c.in-Some.lifted c.into_text-text.result c.change_text-done.new.text
    c.into_text-text.ensures (ap g.B.BlockStore.blocks c.in-Some.ensures.store) c.in-Some.ensures.lifts (c.in-Some.ensures.sound [] c.requires.ready.sound)
    c.change_text-done.ensures.changes c.lower.new.self.bases _ (ap g.B.BlockStore.blocks c.lower.ensures.store) c.in-Some.ensures.within c.lower.ensures.within in
    let only : HasOnly new later db key (values.Text text) =
    text_has c.args.at.now c.args.keyspace.now.bases c.lift.new.self.bases _ _ _ c.args.key.now c.in-Some.lifted c.into_text-text.result c.change_text-done.new.text
    c.into_text-text.ensures (ap g.B.BlockStore.blocks c.in-Some.ensures.store) c.in-Some.ensures.lifts (c.in-Some.ensures.sound [] c.requires.ready.sound)
    c.change_text-done.ensures.changes c.lower.new.self.bases _ (ap g.B.BlockStore.blocks c.lower.ensures.store) c.lower.ensures.has in
    record {
      sound = sound;
      served = search rules;
      settings = search rules;
      within = within;
      insides = insides_bare db key (values.Text text) bases new m later c.requires.ready.sound.arranged sound.arranged within only refl;
    }

pub returns-in-Err-clause-held : goal.returns-in-Err-clause-held
returns-in-Err-clause-held g c =
    let blocks = g.B.BlockStore.blocks in
    let db = c.args.at.now.db in
    let key = c.args.key.now in
    let bases = c.args.keyspace.now.bases in
    let new = c.lower.new.self.bases in
    let m = blocks c.args.keyspace.now.store in
    let later = blocks c.lower.new.self.store in
    let text = c.change_text-done.new.text in
    let sound : Sound new later =
    text_sound c.args.at.now _ _ _ _ _ c.args.key.now c.in-Some.lifted c.into_text-text.result c.change_text-done.new.text c.into_text-text.ensures (ap g.B.BlockStore.blocks c.in-Some.ensures.store)
    c.in-Some.ensures.lifts (c.in-Some.ensures.sound [] c.requires.ready.sound) c.change_text-done.ensures.changes _ _ (ap g.B.BlockStore.blocks c.lower.ensures.store) c.lower.ensures.sound in
    let within : Within (one_key db key) bases new m later =
    text_within c.args.at.now c.args.keyspace.now.bases c.lift.new.self.bases _ _ _ c.args.key.now c.in-Some.lifted c.into_text-text.result c.change_text-done.new.text
    c.into_text-text.ensures (ap g.B.BlockStore.blocks c.in-Some.ensures.store) c.in-Some.ensures.lifts (c.in-Some.ensures.sound [] c.requires.ready.sound)
    c.change_text-done.ensures.changes c.lower.new.self.bases _ (ap g.B.BlockStore.blocks c.lower.ensures.store) c.in-Some.ensures.within c.lower.ensures.within in
    let only : HasOnly new later db key (values.Text text) =
    text_has c.args.at.now c.args.keyspace.now.bases c.lift.new.self.bases _ _ _ c.args.key.now c.in-Some.lifted c.into_text-text.result c.change_text-done.new.text
    c.into_text-text.ensures (ap g.B.BlockStore.blocks c.in-Some.ensures.store) c.in-Some.ensures.lifts (c.in-Some.ensures.sound [] c.requires.ready.sound)
    c.change_text-done.ensures.changes c.lower.new.self.bases _ (ap g.B.BlockStore.blocks c.lower.ensures.store) c.lower.ensures.has in
    record {
      sound = sound;
      served = search rules;
      settings = search rules;
      within = within;
      insides = insides_bare db key (values.Text text) bases new m later c.requires.ready.sound.arranged sound.arranged within only refl;
    }

pub returns-in-Ok-clause-becomes : goal.returns-in-Ok-clause-becomes
returns-in-Ok-clause-becomes g c =
    text_becomes c.args.at.now c.args.keyspace.now.bases c.lift.new.self.bases _ _ _ c.args.key.now c.in-Some.lifted c.into_text-text.result c.change_text-done.new.text
    c.into_text-text.ensures (ap g.B.BlockStore.blocks c.in-Some.ensures.store)
    c.in-Some.ensures.lifts (c.in-Some.ensures.sound [] c.requires.ready.sound) c.change_text-done.ensures.changes c.lower.new.self.bases _ (ap g.B.BlockStore.blocks c.lower.ensures.store)
    c.lower.ensures.means
    (changed c.args.change) c.in-Ok.ensures.bytes

pub returns-in-Ok-clause-raw : goal.returns-in-Ok-clause-raw
returns-in-Ok-clause-raw g c i e found bytes =
    let has = text_has c.args.at.now c.args.keyspace.now.bases c.lift.new.self.bases _ _ _ c.args.key.now c.in-Some.lifted c.into_text-text.result c.change_text-done.new.text
    c.into_text-text.ensures (ap g.B.BlockStore.blocks c.in-Some.ensures.store) c.in-Some.ensures.lifts (c.in-Some.ensures.sound [] c.requires.ready.sound)
    c.change_text-done.ensures.changes c.lower.new.self.bases _ (ap g.B.BlockStore.blocks c.lower.ensures.store) c.lower.ensures.has in
    subst IsRaw (sym (has i e found bytes)) (ap OfText c.in-Ok.ensures.raw)

pub into_text-text-requires : goal.into_text-text-requires
into_text-text-requires g c = lifted_there c.args.keyspace.now.bases c.lift.new.self.bases (g.B.BlockStore.blocks c.args.keyspace.now.store) c.args.at.now c.args.key.now c.requires.there.0
    c.in-Some.lifted c.in-Some.ensures.lifts c.requires.there.1
