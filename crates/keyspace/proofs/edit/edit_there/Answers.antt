use Rattle.std.proofs.Common.{rules, ◌<◌, [], Some, sym, ap, subst, ◌∙◌}
use Rattle.rehash_dict.specs.Tables.{IsSettled}
use Rattle.keyspace.specs.Values.{value_of, value_tables, IsSound}
use Rattle.keyspace.specs.Insides.{size}
use Rattle.keyspace.proofs.Settles.{settles_edited}
use Rattle.keyspace.specs.Edits.{shape}
use Rattle.keyspace.proofs.Uses.{lifted_sound}
use Rattle.held.specs.Calls.{HasOnly}
use Rattle.keyspace.specs.Sound.{Sound}
use Rattle.keyspace.specs.Scopes.{one_key, Within}
use Rattle.keyspace.proofs.Editing.{edit_intact, edit_sound, edit_within, edit_insides, edit_has, edit_means}
use Rattle.keyspace.proofs.edit.edit_there.Goals as goal

pub edit-done-requires-clause-sound : goal.edit-done-requires-clause-sound
edit-done-requires-clause-sound g c =
    let blocks = g.B.BlockStore.blocks in
    let mid = c.lift_at-lifted.new.self.bases in
    let lifts = c.lift_at-lifted.ensures.lifts c.args.key.now c.args.at.now.moment c.requires.there in (
      mid.limits,
      mid.seed,
      subst (λ b. IsSound mid.limits mid.seed b c.lift_at-lifted.result.value) (sym (ap blocks c.lift_at-lifted.ensures.store))
          (lifted_sound c.args.keyspace.now.bases mid (blocks c.args.keyspace.now.store) c.args.at.now.db c.args.at.now.moment c.args.key.now c.lift_at-lifted.result
          c.requires.ready.sound.arranged c.lift_at-lifted.ensures.settings lifts),
    )

pub edit-done-requires-clause-takes : goal.edit-done-requires-clause-takes
edit-done-requires-clause-takes g c =
    let blocks = g.B.BlockStore.blocks in
    let lifts = c.lift_at-lifted.ensures.lifts c.args.key.now c.args.at.now.moment c.requires.there in
    let value = c.lift_at-lifted.result.value in
    c.requires.takes (record { value = value_of (blocks c.lift_at-lifted.new.self.store) value; deadline = lifts.deadline })
    (lifts.stands ∙ ap (λ b. Some (record { value = value_of b value; deadline = lifts.deadline })) (sym (ap blocks c.lift_at-lifted.ensures.store)))

pub lower-requires-clause-intact : goal.lower-requires-clause-intact
lower-requires-clause-intact g c =
    let blocks = g.B.BlockStore.blocks in
    let mid = c.lift_at-lifted.new.self.bases in
    let lifts = c.lift_at-lifted.ensures.lifts c.args.key.now c.args.at.now.moment c.requires.there in
    let sound = c.lift_at-lifted.ensures.sound c.args.key.now c.args.at.now.moment c.requires.there [] c.requires.ready.sound in
    edit_intact c.args.at.now c.args.keyspace.now.bases mid (blocks c.args.keyspace.now.store) (blocks c.lift_at-lifted.new.self.store) (blocks c.edit-done.new.store) c.args.key.now
    c.lift_at-lifted.result c.edit-done.new.value (ap blocks c.lift_at-lifted.ensures.store) lifts sound c.edit-done.ensures.changes
    (c.edit-done.ensures.sound mid.limits mid.seed (subst (λ b. IsSound mid.limits mid.seed b c.lift_at-lifted.result.value) (sym (ap blocks c.lift_at-lifted.ensures.store))
    (lifted_sound c.args.keyspace.now.bases mid (blocks c.args.keyspace.now.store) c.args.at.now.db c.args.at.now.moment c.args.key.now c.lift_at-lifted.result
    c.requires.ready.sound.arranged c.lift_at-lifted.ensures.settings lifts)))

pub returns-in-Ok-clause-held : goal.returns-in-Ok-clause-held
returns-in-Ok-clause-held g c =
    let blocks = g.B.BlockStore.blocks in
    let mid = c.lift_at-lifted.new.self.bases in
    let lifts = c.lift_at-lifted.ensures.lifts c.args.key.now c.args.at.now.moment c.requires.there in
    let sound = c.lift_at-lifted.ensures.sound c.args.key.now c.args.at.now.moment c.requires.there [] c.requires.ready.sound in
    let bases = c.args.keyspace.now.bases in
    let m = blocks c.args.keyspace.now.store in
    let after = blocks c.edit-done.new.store in
    let later = blocks c.lower.new.self.store in
    let value = c.edit-done.new.value in
    let now : Sound c.lower.new.self.bases later =
    edit_sound c.args.at.now bases mid m (blocks c.lift_at-lifted.new.self.store) after c.args.key.now c.lift_at-lifted.result value (ap blocks c.lift_at-lifted.ensures.store) lifts sound
    c.edit-done.ensures.changes c.lower.new.self.bases later (ap blocks c.lower.ensures.store) c.lower.ensures.sound in
    let within : Within (one_key c.args.at.now.db c.args.key.now) bases c.lower.new.self.bases m later =
    edit_within c.args.at.now bases mid m (blocks c.lift_at-lifted.new.self.store) after c.args.key.now c.lift_at-lifted.result value (ap blocks c.lift_at-lifted.ensures.store) lifts sound
    c.edit-done.ensures.changes c.lower.new.self.bases later (ap blocks c.lower.ensures.store) (c.lift_at-lifted.ensures.within c.args.key.now c.args.at.now.moment c.requires.there)
    c.lower.ensures.within in
    let only : HasOnly c.lower.new.self.bases later c.args.at.now.db c.args.key.now value =
    edit_has c.args.at.now bases mid m (blocks c.lift_at-lifted.new.self.store) after c.args.key.now c.lift_at-lifted.result value (ap blocks c.lift_at-lifted.ensures.store) lifts sound
    c.edit-done.ensures.changes c.lower.new.self.bases later (ap blocks c.lower.ensures.store) c.lower.ensures.has in
    record {
      sound = now;
      served = search rules;
      settings = search rules;
      within = within;
      insides = edit_insides c.args.at.now bases mid m (blocks c.lift_at-lifted.new.self.store) after c.args.key.now c.lift_at-lifted.result value (ap blocks c.lift_at-lifted.ensures.store)
          lifts sound c.edit-done.ensures.changes c.lower.new.self.bases later (ap blocks c.lower.ensures.store) c.requires.ready.sound.arranged now.arranged within only
          c.edit-done.ensures.grown;
    }

pub returns-in-Err-clause-held : goal.returns-in-Err-clause-held
returns-in-Err-clause-held g c =
    let blocks = g.B.BlockStore.blocks in
    let mid = c.lift_at-lifted.new.self.bases in
    let lifts = c.lift_at-lifted.ensures.lifts c.args.key.now c.args.at.now.moment c.requires.there in
    let sound = c.lift_at-lifted.ensures.sound c.args.key.now c.args.at.now.moment c.requires.there [] c.requires.ready.sound in
    let bases = c.args.keyspace.now.bases in
    let m = blocks c.args.keyspace.now.store in
    let after = blocks c.edit-done.new.store in
    let later = blocks c.lower.new.self.store in
    let value = c.edit-done.new.value in
    let now : Sound c.lower.new.self.bases later =
    edit_sound c.args.at.now bases mid m (blocks c.lift_at-lifted.new.self.store) after c.args.key.now c.lift_at-lifted.result value (ap blocks c.lift_at-lifted.ensures.store) lifts sound
    c.edit-done.ensures.changes c.lower.new.self.bases later (ap blocks c.lower.ensures.store) c.lower.ensures.sound in
    let within : Within (one_key c.args.at.now.db c.args.key.now) bases c.lower.new.self.bases m later =
    edit_within c.args.at.now bases mid m (blocks c.lift_at-lifted.new.self.store) after c.args.key.now c.lift_at-lifted.result value (ap blocks c.lift_at-lifted.ensures.store) lifts sound
    c.edit-done.ensures.changes c.lower.new.self.bases later (ap blocks c.lower.ensures.store) (c.lift_at-lifted.ensures.within c.args.key.now c.args.at.now.moment c.requires.there)
    c.lower.ensures.within in
    let only : HasOnly c.lower.new.self.bases later c.args.at.now.db c.args.key.now value =
    edit_has c.args.at.now bases mid m (blocks c.lift_at-lifted.new.self.store) after c.args.key.now c.lift_at-lifted.result value (ap blocks c.lift_at-lifted.ensures.store) lifts sound
    c.edit-done.ensures.changes c.lower.new.self.bases later (ap blocks c.lower.ensures.store) c.lower.ensures.has in
    record {
      sound = now;
      served = search rules;
      settings = search rules;
      within = within;
      insides = edit_insides c.args.at.now bases mid m (blocks c.lift_at-lifted.new.self.store) after c.args.key.now c.lift_at-lifted.result value (ap blocks c.lift_at-lifted.ensures.store)
          lifts sound c.edit-done.ensures.changes c.lower.new.self.bases later (ap blocks c.lower.ensures.store) c.requires.ready.sound.arranged now.arranged within only
          c.edit-done.ensures.grown;
    }

pub returns-in-Ok-clause-edits : goal.returns-in-Ok-clause-edits
returns-in-Ok-clause-edits g c =
    let blocks = g.B.BlockStore.blocks in
    let mid = c.lift_at-lifted.new.self.bases in
    let lifts = c.lift_at-lifted.ensures.lifts c.args.key.now c.args.at.now.moment c.requires.there in
    let sound = c.lift_at-lifted.ensures.sound c.args.key.now c.args.at.now.moment c.requires.there [] c.requires.ready.sound in
    let was = c.lift_at-lifted.result.value in
    let now = c.edit-done.new.value in
    record {
      was = was;
      now = now;
      deadline = lifts.deadline;
      stands = lifts.stands;
      had = lifts.had;
      made = subst (λ b. g.E.Edit.makes c.args.edit.now c.edit-done.new.self (shape b was) (shape (blocks c.lower.new.self.store) now)) (ap blocks c.lift_at-lifted.ensures.store)
          (subst (λ b. g.E.Edit.makes c.args.edit.now c.edit-done.new.self (shape (blocks c.lift_at-lifted.new.self.store) was) (shape b now)) (sym (ap blocks c.lower.ensures.store))
          c.in-Ok.ensures.makes);
      world = edit_means c.args.at.now c.args.keyspace.now.bases mid (blocks c.args.keyspace.now.store) (blocks c.lift_at-lifted.new.self.store) (blocks c.edit-done.new.store)
          c.args.key.now c.lift_at-lifted.result c.edit-done.new.value (ap blocks c.lift_at-lifted.ensures.store) lifts sound c.edit-done.ensures.changes c.lower.new.self.bases
          (blocks c.lower.new.self.store) (ap blocks c.lower.ensures.store) c.lower.ensures.means;
      only = edit_has c.args.at.now c.args.keyspace.now.bases mid (blocks c.args.keyspace.now.store) (blocks c.lift_at-lifted.new.self.store) (blocks c.edit-done.new.store) c.args.key.now
          c.lift_at-lifted.result c.edit-done.new.value (ap blocks c.lift_at-lifted.ensures.store) lifts sound c.edit-done.ensures.changes c.lower.new.self.bases
          (blocks c.lower.new.self.store) (ap blocks c.lower.ensures.store) c.lower.ensures.has;
    }

pub returns-in-Ok-clause-settles : goal.returns-in-Ok-clause-settles
returns-in-Ok-clause-settles g c =
    let blocks = g.B.BlockStore.blocks in
    let mid = c.lift_at-lifted.new.self.bases in
    let lifts = c.lift_at-lifted.ensures.lifts c.args.key.now c.args.at.now.moment c.requires.there in
    let sound = c.lift_at-lifted.ensures.sound c.args.key.now c.args.at.now.moment c.requires.there [] c.requires.ready.sound in
    let bases = c.args.keyspace.now.bases in
    let m = blocks c.args.keyspace.now.store in
    let own = blocks c.lift_at-lifted.new.self.store in
    let after = blocks c.edit-done.new.store in
    let later = blocks c.lower.new.self.store in
    let was = c.lift_at-lifted.result.value in
    let now = c.edit-done.new.value in
    settles_edited blocks c.args.at.now c.args.key.now c.args.keyspace.now c.lower.new.self was now lifts.deadline lifts.stands
    (edit_means c.args.at.now bases mid m own after c.args.key.now c.lift_at-lifted.result now (ap blocks c.lift_at-lifted.ensures.store) lifts sound c.edit-done.ensures.changes
    c.lower.new.self.bases later (ap blocks c.lower.ensures.store) c.lower.ensures.means)
    (edit_has c.args.at.now bases mid m own after c.args.key.now c.lift_at-lifted.result now (ap blocks c.lift_at-lifted.ensures.store) lifts sound c.edit-done.ensures.changes
    c.lower.new.self.bases later (ap blocks c.lower.ensures.store) c.lower.ensures.has)
    (subst (λ b. size (value_of later now) < size (value_of b was) → IsSettled (value_tables later now)) (ap blocks c.lift_at-lifted.ensures.store)
    (subst (λ b. size (value_of b now) < size (value_of own was) → IsSettled (value_tables b now)) (sym (ap blocks c.lower.ensures.store)) c.in-Ok.ensures.settled))
