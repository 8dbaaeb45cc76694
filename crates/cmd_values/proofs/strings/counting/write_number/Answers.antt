use Rattle.keyspace.specs.Values.{OfText}
use Rattle.cmd_values.proofs.Lowering.{lifted_string}
use Rattle.std.proofs.Common.{rules, [], Some, refl, ap, subst, ◌∙◌}
use Rattle.held.specs.Calls.{HasOnly}
use Rattle.keyspace.specs.declared.value.Value.TheVariants as values
use Rattle.keyspace.specs.Sound.{Sound}
use Rattle.keyspace.specs.Scopes.{one_key, Within}
use Rattle.keyspace.proofs.Insides.{insides_bare}
use Rattle.keyspace.specs.Values.{value_of}
use Rattle.std.specs.Int.{w64}
use Rattle.std.proofs.lemmas.Int.{to_z-of_z}
use Rattle.int_text.specs.Decimal.{canonical}
use Rattle.cmd_values.proofs.Lowering.{text_intact, text_sound, text_within, text_has, text_becomes}
use Rattle.cmd_values.proofs.StringLemmas.{number_lowered, on_ok}
use Rattle.keyspace.specs.Commands.{visible}
use Rattle.std.proofs.Common.{sym}
use Rattle.keyspace.specs.Values.{IsWrittenWhole}
use Rattle.keyspace.specs.Forms.{Whole}
use Rattle.keyspace.proofs.Forming.{formed_ok, formed_key}
use Rattle.cmd_values.proofs.strings.counting.write_number.Goals as goal
use Rattle.cmd_values.proofs.Placing.{wrote_whole}
use Rattle.held.specs.Calls.{AllAt}

pub lower-requires-clause-intact : goal.lower-requires-clause-intact
lower-requires-clause-intact g c =
    text_intact c.args.at.now _ _ _ _ _ c.args.key.now c.lift_at-lifted.result c.into_text-text.result c.set_number.new.self c.into_text-text.ensures
    (ap g.B.BlockStore.blocks c.lift_at-lifted.ensures.store)
    (c.lift_at-lifted.ensures.lifts c.args.key.now c.args.at.now.moment (rw c.in-Some.is at c.requires.sees.there))
    (c.lift_at-lifted.ensures.sound c.args.key.now c.args.at.now.moment (rw c.in-Some.is at c.requires.sees.there) [] c.requires.ready.sound) c.set_number.ensures.changes

pub returns-in-Some-clause-held : goal.returns-in-Some-clause-held
returns-in-Some-clause-held g c =
    let blocks = g.B.BlockStore.blocks in
    let db = c.args.at.now.db in
    let key = c.args.key.now in
    let bases = c.args.keyspace.now.bases in
    let new = c.lower.new.self.bases in
    let m = blocks c.args.keyspace.now.store in
    let later = blocks c.lower.new.self.store in
    let text = c.set_number.new.self in
    let sound : Sound new later =
    text_sound c.args.at.now _ _ _ _ _ c.args.key.now c.lift_at-lifted.result c.into_text-text.result c.set_number.new.self c.into_text-text.ensures
    (ap g.B.BlockStore.blocks c.lift_at-lifted.ensures.store)
    (c.lift_at-lifted.ensures.lifts c.args.key.now c.args.at.now.moment (rw c.in-Some.is at c.requires.sees.there))
    (c.lift_at-lifted.ensures.sound c.args.key.now c.args.at.now.moment (rw c.in-Some.is at c.requires.sees.there) [] c.requires.ready.sound) c.set_number.ensures.changes _ _
    (ap g.B.BlockStore.blocks c.lower.ensures.store) c.lower.ensures.sound in
    let within : Within (one_key db key) bases new m later =
    text_within c.args.at.now c.args.keyspace.now.bases c.lift_at-lifted.new.self.bases _ _ _ c.args.key.now c.lift_at-lifted.result c.into_text-text.result c.set_number.new.self
    c.into_text-text.ensures (ap g.B.BlockStore.blocks c.lift_at-lifted.ensures.store)
    (c.lift_at-lifted.ensures.lifts c.args.key.now c.args.at.now.moment (rw c.in-Some.is at c.requires.sees.there))
    (c.lift_at-lifted.ensures.sound c.args.key.now c.args.at.now.moment (rw c.in-Some.is at c.requires.sees.there) [] c.requires.ready.sound) c.set_number.ensures.changes
    c.lower.new.self.bases _ (ap g.B.BlockStore.blocks c.lower.ensures.store)
    (c.lift_at-lifted.ensures.within c.args.key.now c.args.at.now.moment (rw c.in-Some.is at c.requires.sees.there)) c.lower.ensures.within in
    let only : HasOnly new later db key (values.Text text) =
    text_has c.args.at.now c.args.keyspace.now.bases c.lift_at-lifted.new.self.bases _ _ _ c.args.key.now c.lift_at-lifted.result c.into_text-text.result c.set_number.new.self
    c.into_text-text.ensures (ap g.B.BlockStore.blocks c.lift_at-lifted.ensures.store)
    (c.lift_at-lifted.ensures.lifts c.args.key.now c.args.at.now.moment (rw c.in-Some.is at c.requires.sees.there))
    (c.lift_at-lifted.ensures.sound c.args.key.now c.args.at.now.moment (rw c.in-Some.is at c.requires.sees.there) [] c.requires.ready.sound) c.set_number.ensures.changes
    c.lower.new.self.bases _ (ap g.B.BlockStore.blocks c.lower.ensures.store) c.lower.ensures.has in
    record {
      sound = sound;
      served = search rules;
      settings = search rules;
      within = within;
      insides = insides_bare db key (values.Text text) bases new m later c.requires.ready.sound.arranged sound.arranged within only refl;
    }

pub returns-in-Some-clause-world : goal.returns-in-Some-clause-world
returns-in-Some-clause-world g c =
    number_lowered (visible g.B.BlockStore.blocks c.args.keyspace.now c.args.at.now) (visible g.B.BlockStore.blocks c.lower.new.self c.args.at.now) c.args.key.now _ c.args.n
    c.number-in-Some.result (c.lift_at-lifted.ensures.lifts c.args.key.now c.args.at.now.moment (rw c.in-Some.is at c.requires.sees.there)).deadline
    ((c.lift_at-lifted.ensures.lifts c.args.key.now c.args.at.now.moment (rw c.in-Some.is at c.requires.sees.there)).stands
    ∙ ap
    (λ v. Some
    (record {
      value = value_of (g.B.BlockStore.blocks c.args.keyspace.now.store) v;
      deadline =
          (c.lift_at-lifted.ensures.lifts c.args.key.now c.args.at.now.moment (rw c.in-Some.is at c.requires.sees.there)).deadline;
    })) c.into_text-text.ensures)
    (text_becomes c.args.at.now c.args.keyspace.now.bases c.lift_at-lifted.new.self.bases _ _ _ c.args.key.now c.lift_at-lifted.result c.into_text-text.result c.set_number.new.self
    c.into_text-text.ensures (ap g.B.BlockStore.blocks c.lift_at-lifted.ensures.store)
    (c.lift_at-lifted.ensures.lifts c.args.key.now c.args.at.now.moment (rw c.in-Some.is at c.requires.sees.there))
    (c.lift_at-lifted.ensures.sound c.args.key.now c.args.at.now.moment (rw c.in-Some.is at c.requires.sees.there) [] c.requires.ready.sound) c.set_number.ensures.changes
    c.lower.new.self.bases _ (ap g.B.BlockStore.blocks c.lower.ensures.store) c.lower.ensures.means
    (λ bytes. canonical c.args.n) (rw (to_z-of_z w64 c.args.n c.ranges.n) at c.set_number.ensures.bytes))

pub returns-in_ok-put_number-in-None-clause-world : goal.returns-in_ok-put_number-in-None-clause-world
returns-in_ok-put_number-in-None-clause-world g c = on_ok c.number.result (rw (to_z-of_z w64 c.args.n c.ranges.n) at c.in_ok-put_number-in-None.ensures.world)

pub returns-in-Some-clause-forms : goal.returns-in-Some-clause-forms
returns-in-Some-clause-forms g c =
    let held = returns-in-Some-clause-held g c in
    let has = text_has c.args.at.now c.args.keyspace.now.bases c.lift_at-lifted.new.self.bases _ _ _ c.args.key.now c.lift_at-lifted.result c.into_text-text.result c.set_number.new.self
    c.into_text-text.ensures (ap g.B.BlockStore.blocks c.lift_at-lifted.ensures.store)
    (c.lift_at-lifted.ensures.lifts c.args.key.now c.args.at.now.moment (rw c.in-Some.is at c.requires.sees.there))
    (c.lift_at-lifted.ensures.sound c.args.key.now c.args.at.now.moment (rw c.in-Some.is at c.requires.sees.there) [] c.requires.ready.sound) c.set_number.ensures.changes
    c.lower.new.self.bases _ (ap g.B.BlockStore.blocks c.lower.ensures.store) c.lower.ensures.has in
    let whole : AllAt IsWrittenWhole c.lower.new.self.bases (g.B.BlockStore.blocks c.lower.new.self.store) c.args.at.now.db c.args.key.now = λ i e found bytes. subst IsWrittenWhole
    (sym (has i e found bytes)) (ap OfText c.set_number.ensures.whole) in
    wrote_whole c.args.at.now.db c.args.key.now g.B.BlockStore.blocks c.args.keyspace.now c.lower.new.self c.number-in-Some.result
    (formed_key Whole c.args.at.now.db c.args.key.now c.args.keyspace.now.bases c.lower.new.self.bases _ _ held.within held.sound.arranged whole) whole

pub into_text-text-requires : goal.into_text-text-requires
into_text-text-requires g c = lifted_string c.args.keyspace.now.bases c.lift_at-lifted.new.self.bases (g.B.BlockStore.blocks c.args.keyspace.now.store) c.args.at.now c.args.key.now
    c.lift_at-lifted.result (c.lift_at-lifted.ensures.lifts c.args.key.now c.args.at.now.moment (rw c.in-Some.is at c.requires.sees.there)) c.requires.string

pub returns-in_ok-put_number-in-None-clause-forms : goal.returns-in_ok-put_number-in-None-clause-forms
returns-in_ok-put_number-in-None-clause-forms g c =
    wrote_whole c.args.at.now.db c.args.key.now g.B.BlockStore.blocks c.args.keyspace.now c.put_number.new.keyspace c.number.result c.in_ok-put_number-in-None.ensures.forms
    c.in_ok-put_number-in-None.ensures.whole
