use Rattle.std.proofs.Common.{[], ap}
use Rattle.rehash_dict.specs.Grown.{Grown}
use Rattle.rehash_dict.specs.Keyed.{hash_of}
use Rattle.stored.specs.Owning.{no_tables}
use Rattle.keyspace.specs.Values.{value_refs, value_tables, IsSound}
use Rattle.keyspace.specs.Sound.{SoundBeside}
use Rattle.keyspace.proofs.Uses.{lifted_sound}
use Rattle.cmd_keys.proofs.Copying.{copy_changed, err_changed, copy_intact, copy_sound, copy_within, copy_insides, copy_has, copy_means}
use Rattle.std.proofs.Common.{sym, subst}
use Rattle.keyspace.specs.Forms.{AsAt, HasForm}
use Rattle.keyspace.proofs.Forming.{formed_key, like_itself}
use Rattle.cmd_keys.proofs.keys.copying.copy_value.Goals as goal

pub lower-requires-clause-intact : goal.lower-requires-clause-intact
lower-requires-clause-intact g c =
    let x = copy_changed (g.B.BlockStore.blocks c.lift_at-lifted.new.self.store) (g.B.BlockStore.blocks c.copy-copied.new.store) c.copy-copied.result c.copy-copied.ensures.changes
    c.copy-copied.ensures.err in
    copy_intact c.args.keyspace.now.bases c.lift_at-lifted.new.self.bases (g.B.BlockStore.blocks c.args.keyspace.now.store) (g.B.BlockStore.blocks c.lift_at-lifted.new.self.store)
    (g.B.BlockStore.blocks c.copy-copied.new.store) c.args.at.now.db c.args.at.now.moment c.args.key.now c.lift_at-lifted.result x.0
    (ap g.B.BlockStore.blocks c.lift_at-lifted.ensures.store) (c.lift_at-lifted.ensures.lifts c.args.key.now c.args.at.now.moment c.requires.there)
    ((c.lift_at-lifted.ensures.sound c.args.key.now c.args.at.now.moment c.requires.there) [] c.requires.ready.sound) x.1
    (lifted_sound c.args.keyspace.now.bases c.lift_at-lifted.new.self.bases (g.B.BlockStore.blocks c.args.keyspace.now.store) c.args.at.now.db c.args.at.now.moment c.args.key.now
    c.lift_at-lifted.result c.requires.ready.sound.arranged c.lift_at-lifted.ensures.settings (c.lift_at-lifted.ensures.lifts c.args.key.now c.args.at.now.moment c.requires.there))

pub returns-in-Ok-clause-world : goal.returns-in-Ok-clause-world
returns-in-Ok-clause-world g c =
    copy_means c.args.keyspace.now.bases c.lift_at-lifted.new.self.bases (g.B.BlockStore.blocks c.args.keyspace.now.store) (g.B.BlockStore.blocks c.lift_at-lifted.new.self.store)
    (g.B.BlockStore.blocks c.copy-copied.new.store) c.args.at.now.db c.args.at.now.moment c.args.key.now c.lift_at-lifted.result
    (value_refs (g.B.BlockStore.blocks c.copy-copied.new.store) c.in-Ok.value)
    (ap g.B.BlockStore.blocks c.lift_at-lifted.ensures.store) (c.lift_at-lifted.ensures.lifts c.args.key.now c.args.at.now.moment c.requires.there)
    ((c.lift_at-lifted.ensures.sound c.args.key.now c.args.at.now.moment c.requires.there) [] c.requires.ready.sound) c.in-Ok.ensures.changes
    c.lower.new.self.bases (g.B.BlockStore.blocks c.lower.new.self.store) (ap g.B.BlockStore.blocks c.lower.ensures.store) c.lower.ensures.means

pub returns-in-Ok-clause-sound : goal.returns-in-Ok-clause-sound
returns-in-Ok-clause-sound g c =
    let later = ap g.B.BlockStore.blocks c.lower.ensures.store in
    subst (λ b. SoundBeside c.lower.new.self.bases (g.B.BlockStore.blocks c.lower.new.self.store) (value_refs b c.in-Ok.value)) (sym later)
    (copy_sound c.args.keyspace.now.bases c.lift_at-lifted.new.self.bases (g.B.BlockStore.blocks c.args.keyspace.now.store) (g.B.BlockStore.blocks c.lift_at-lifted.new.self.store)
    (g.B.BlockStore.blocks c.copy-copied.new.store) c.args.at.now.db c.args.at.now.moment c.args.key.now c.lift_at-lifted.result
    (value_refs (g.B.BlockStore.blocks c.copy-copied.new.store) c.in-Ok.value)
    (ap g.B.BlockStore.blocks c.lift_at-lifted.ensures.store) (c.lift_at-lifted.ensures.lifts c.args.key.now c.args.at.now.moment c.requires.there)
    ((c.lift_at-lifted.ensures.sound c.args.key.now c.args.at.now.moment c.requires.there) [] c.requires.ready.sound) c.in-Ok.ensures.changes
    c.lower.new.self.bases (g.B.BlockStore.blocks c.lower.new.self.store) (ap g.B.BlockStore.blocks c.lower.ensures.store) c.lower.ensures.sound)

pub returns-in-Err-clause-world : goal.returns-in-Err-clause-world
returns-in-Err-clause-world g c =
    copy_means c.args.keyspace.now.bases c.lift_at-lifted.new.self.bases (g.B.BlockStore.blocks c.args.keyspace.now.store) (g.B.BlockStore.blocks c.lift_at-lifted.new.self.store)
    (g.B.BlockStore.blocks c.copy-copied.new.store) c.args.at.now.db c.args.at.now.moment c.args.key.now c.lift_at-lifted.result []
    (ap g.B.BlockStore.blocks c.lift_at-lifted.ensures.store) (c.lift_at-lifted.ensures.lifts c.args.key.now c.args.at.now.moment c.requires.there)
    ((c.lift_at-lifted.ensures.sound c.args.key.now c.args.at.now.moment c.requires.there) [] c.requires.ready.sound)
    (err_changed (g.B.BlockStore.blocks c.lift_at-lifted.new.self.store) (g.B.BlockStore.blocks c.copy-copied.new.store) c.in-Err.ensures.err)
    c.lower.new.self.bases (g.B.BlockStore.blocks c.lower.new.self.store) (ap g.B.BlockStore.blocks c.lower.ensures.store) c.lower.ensures.means

pub returns-in-Err-clause-err : goal.returns-in-Err-clause-err
returns-in-Err-clause-err g c =
    copy_sound c.args.keyspace.now.bases c.lift_at-lifted.new.self.bases (g.B.BlockStore.blocks c.args.keyspace.now.store) (g.B.BlockStore.blocks c.lift_at-lifted.new.self.store)
    (g.B.BlockStore.blocks c.copy-copied.new.store) c.args.at.now.db c.args.at.now.moment c.args.key.now c.lift_at-lifted.result []
    (ap g.B.BlockStore.blocks c.lift_at-lifted.ensures.store) (c.lift_at-lifted.ensures.lifts c.args.key.now c.args.at.now.moment c.requires.there)
    ((c.lift_at-lifted.ensures.sound c.args.key.now c.args.at.now.moment c.requires.there) [] c.requires.ready.sound)
    (err_changed (g.B.BlockStore.blocks c.lift_at-lifted.new.self.store) (g.B.BlockStore.blocks c.copy-copied.new.store) c.in-Err.ensures.err)
    c.lower.new.self.bases (g.B.BlockStore.blocks c.lower.new.self.store) (ap g.B.BlockStore.blocks c.lower.ensures.store) c.lower.ensures.sound

pub returns-in-Ok-clause-within : goal.returns-in-Ok-clause-within
returns-in-Ok-clause-within g c =
    copy_within c.args.keyspace.now.bases c.lift_at-lifted.new.self.bases (g.B.BlockStore.blocks c.args.keyspace.now.store) (g.B.BlockStore.blocks c.lift_at-lifted.new.self.store)
    (g.B.BlockStore.blocks c.copy-copied.new.store) c.args.at.now.db c.args.at.now.moment c.args.key.now c.lift_at-lifted.result
    (value_refs (g.B.BlockStore.blocks c.copy-copied.new.store) c.in-Ok.value)
    (ap g.B.BlockStore.blocks c.lift_at-lifted.ensures.store) (c.lift_at-lifted.ensures.lifts c.args.key.now c.args.at.now.moment c.requires.there)
    ((c.lift_at-lifted.ensures.sound c.args.key.now c.args.at.now.moment c.requires.there) [] c.requires.ready.sound) c.in-Ok.ensures.changes
    c.lower.new.self.bases (g.B.BlockStore.blocks c.lower.new.self.store) (ap g.B.BlockStore.blocks c.lower.ensures.store)
    (c.lift_at-lifted.ensures.within c.args.key.now c.args.at.now.moment c.requires.there) c.lower.ensures.within

pub returns-in-Err-clause-within : goal.returns-in-Err-clause-within
returns-in-Err-clause-within g c =
    copy_within c.args.keyspace.now.bases c.lift_at-lifted.new.self.bases (g.B.BlockStore.blocks c.args.keyspace.now.store) (g.B.BlockStore.blocks c.lift_at-lifted.new.self.store)
    (g.B.BlockStore.blocks c.copy-copied.new.store) c.args.at.now.db c.args.at.now.moment c.args.key.now c.lift_at-lifted.result []
    (ap g.B.BlockStore.blocks c.lift_at-lifted.ensures.store) (c.lift_at-lifted.ensures.lifts c.args.key.now c.args.at.now.moment c.requires.there)
    ((c.lift_at-lifted.ensures.sound c.args.key.now c.args.at.now.moment c.requires.there) [] c.requires.ready.sound)
    (err_changed (g.B.BlockStore.blocks c.lift_at-lifted.new.self.store) (g.B.BlockStore.blocks c.copy-copied.new.store) c.in-Err.ensures.err)
    c.lower.new.self.bases (g.B.BlockStore.blocks c.lower.new.self.store) (ap g.B.BlockStore.blocks c.lower.ensures.store)
    (c.lift_at-lifted.ensures.within c.args.key.now c.args.at.now.moment c.requires.there) c.lower.ensures.within

pub returns-in-Ok-clause-form : goal.returns-in-Ok-clause-form
returns-in-Ok-clause-form g c = (c.lift_at-lifted.result.value, (c.lift_at-lifted.ensures.lifts c.args.key.now c.args.at.now.moment c.requires.there).had, c.in-Ok.ensures.encoding)

pub returns-in-Ok-clause-forms : goal.returns-in-Ok-clause-forms
returns-in-Ok-clause-forms g c =
    let m = g.B.BlockStore.blocks c.args.keyspace.now.store in
    let has = copy_has c.args.keyspace.now.bases c.lift_at-lifted.new.self.bases (g.B.BlockStore.blocks c.args.keyspace.now.store) (g.B.BlockStore.blocks c.lift_at-lifted.new.self.store)
    (g.B.BlockStore.blocks c.copy-copied.new.store) c.args.at.now.db c.args.at.now.moment c.args.key.now c.lift_at-lifted.result
    (value_refs (g.B.BlockStore.blocks c.copy-copied.new.store) c.in-Ok.value)
    (ap g.B.BlockStore.blocks c.lift_at-lifted.ensures.store) (c.lift_at-lifted.ensures.lifts c.args.key.now c.args.at.now.moment c.requires.there)
    ((c.lift_at-lifted.ensures.sound c.args.key.now c.args.at.now.moment c.requires.there) [] c.requires.ready.sound) c.in-Ok.ensures.changes
    c.lower.new.self.bases (g.B.BlockStore.blocks c.lower.new.self.store) (ap g.B.BlockStore.blocks c.lower.ensures.store) c.lower.ensures.has in
    formed_key (AsAt c.args.at.now.db c.args.key.now) c.args.at.now.db c.args.key.now c.args.keyspace.now.bases c.lower.new.self.bases m (g.B.BlockStore.blocks c.lower.new.self.store)
    (returns-in-Ok-clause-within g c) (returns-in-Ok-clause-sound g c).arranged
    (λ i e found bytes. subst (HasForm (AsAt c.args.at.now.db c.args.key.now) c.args.keyspace.now.bases m) (sym (has i e found bytes))
    (c.lift_at-lifted.result.value, (c.lift_at-lifted.ensures.lifts c.args.key.now c.args.at.now.moment c.requires.there).had, like_itself c.lift_at-lifted.result.value))

pub copy-copied-requires-clause-sound : goal.copy-copied-requires-clause-sound
copy-copied-requires-clause-sound g c = (
  c.lift_at-lifted.new.self.bases.limits,
  c.lift_at-lifted.new.self.bases.seed,
  subst (λ b. IsSound c.lift_at-lifted.new.self.bases.limits c.lift_at-lifted.new.self.bases.seed b c.lift_at-lifted.result.value) (sym (ap g.B.BlockStore.blocks c.lift_at-lifted.ensures.store))
      (lifted_sound c.args.keyspace.now.bases c.lift_at-lifted.new.self.bases (g.B.BlockStore.blocks c.args.keyspace.now.store) c.args.at.now.db c.args.at.now.moment c.args.key.now
      c.lift_at-lifted.result c.requires.ready.sound.arranged c.lift_at-lifted.ensures.settings (c.lift_at-lifted.ensures.lifts c.args.key.now c.args.at.now.moment c.requires.there)),
)

pub returns-in-Ok-clause-kind : goal.returns-in-Ok-clause-kind
returns-in-Ok-clause-kind g c =
    let was = subst (λ b. IsSound c.lift_at-lifted.new.self.bases.limits c.lift_at-lifted.new.self.bases.seed b c.lift_at-lifted.result.value)
    (sym (ap g.B.BlockStore.blocks c.lift_at-lifted.ensures.store))
    (lifted_sound c.args.keyspace.now.bases c.lift_at-lifted.new.self.bases (g.B.BlockStore.blocks c.args.keyspace.now.store) c.args.at.now.db c.args.at.now.moment c.args.key.now
    c.lift_at-lifted.result c.requires.ready.sound.arranged c.lift_at-lifted.ensures.settings (c.lift_at-lifted.ensures.lifts c.args.key.now c.args.at.now.moment c.requires.there)) in
    let made = c.in-Ok.ensures.sound c.lift_at-lifted.new.self.bases.limits c.lift_at-lifted.new.self.bases.seed was in
    subst (λ b. IsSound c.lower.new.self.bases.limits c.lower.new.self.bases.seed b c.in-Ok.value) (sym (ap g.B.BlockStore.blocks c.lower.ensures.store))
    (subst (λ l. IsSound l c.lower.new.self.bases.seed (g.B.BlockStore.blocks c.copy-copied.new.store) c.in-Ok.value) (sym c.lower.ensures.settings.limits)
    (subst (λ n. IsSound c.lift_at-lifted.new.self.bases.limits n (g.B.BlockStore.blocks c.copy-copied.new.store) c.in-Ok.value) (sym c.lower.ensures.settings.seed) made))

pub returns-in-Ok-clause-insides : goal.returns-in-Ok-clause-insides
returns-in-Ok-clause-insides g c =
    let blocks = g.B.BlockStore.blocks in
    let old = c.args.keyspace.now.bases in
    let mid = c.lift_at-lifted.new.self.bases in
    let m = blocks c.args.keyspace.now.store in
    let own = blocks c.lift_at-lifted.new.self.store in
    let after = blocks c.copy-copied.new.store in
    let db = c.args.at.now.db in
    let moment = c.args.at.now.moment in
    let key = c.args.key.now in
    let lifts = c.lift_at-lifted.ensures.lifts key moment c.requires.there in
    let sound = c.lift_at-lifted.ensures.sound key moment c.requires.there [] c.requires.ready.sound in
    let new = c.lower.new.self.bases in
    let later = blocks c.lower.new.self.store in
    let stays = ap blocks c.lower.ensures.store in
    copy_insides old mid m own after db moment key c.lift_at-lifted.result (value_refs after c.in-Ok.value) (ap blocks c.lift_at-lifted.ensures.store) lifts sound c.in-Ok.ensures.changes
    new later stays c.requires.ready.sound.arranged (returns-in-Ok-clause-sound g c).arranged (returns-in-Ok-clause-within g c)
    (copy_has old mid m own after db moment key c.lift_at-lifted.result (value_refs after c.in-Ok.value) (ap blocks c.lift_at-lifted.ensures.store) lifts sound c.in-Ok.ensures.changes
    new later stays c.lower.ensures.has)

pub returns-in-Err-clause-insides : goal.returns-in-Err-clause-insides
returns-in-Err-clause-insides g c =
    let blocks = g.B.BlockStore.blocks in
    let old = c.args.keyspace.now.bases in
    let mid = c.lift_at-lifted.new.self.bases in
    let m = blocks c.args.keyspace.now.store in
    let own = blocks c.lift_at-lifted.new.self.store in
    let after = blocks c.copy-copied.new.store in
    let db = c.args.at.now.db in
    let moment = c.args.at.now.moment in
    let key = c.args.key.now in
    let lifts = c.lift_at-lifted.ensures.lifts key moment c.requires.there in
    let sound = c.lift_at-lifted.ensures.sound key moment c.requires.there [] c.requires.ready.sound in
    let new = c.lower.new.self.bases in
    let later = blocks c.lower.new.self.store in
    let stays = ap blocks c.lower.ensures.store in
    copy_insides old mid m own after db moment key c.lift_at-lifted.result [] (ap blocks c.lift_at-lifted.ensures.store) lifts sound (err_changed own after c.in-Err.ensures.err)
    new later stays c.requires.ready.sound.arranged (returns-in-Err-clause-err g c).arranged (returns-in-Err-clause-within g c)
    (copy_has old mid m own after db moment key c.lift_at-lifted.result [] (ap blocks c.lift_at-lifted.ensures.store) lifts sound (err_changed own after c.in-Err.ensures.err)
    new later stays c.lower.ensures.has)

pub returns-in-Ok-clause-grown : goal.returns-in-Ok-clause-grown
returns-in-Ok-clause-grown g c =
    let was = subst (λ b. IsSound c.lift_at-lifted.new.self.bases.limits c.lift_at-lifted.new.self.bases.seed b c.lift_at-lifted.result.value)
    (sym (ap g.B.BlockStore.blocks c.lift_at-lifted.ensures.store))
    (lifted_sound c.args.keyspace.now.bases c.lift_at-lifted.new.self.bases (g.B.BlockStore.blocks c.args.keyspace.now.store) c.args.at.now.db c.args.at.now.moment c.args.key.now
    c.lift_at-lifted.result c.requires.ready.sound.arranged c.lift_at-lifted.ensures.settings (c.lift_at-lifted.ensures.lifts c.args.key.now c.args.at.now.moment c.requires.there)) in
    let made = c.in-Ok.ensures.grown c.lift_at-lifted.new.self.bases.limits c.lift_at-lifted.new.self.bases.seed was in
    subst (λ b. Grown (hash_of c.lower.new.self.bases.seed) no_tables (value_tables b c.in-Ok.value)) (sym (ap g.B.BlockStore.blocks c.lower.ensures.store))
    (subst (λ n. Grown (hash_of n) no_tables (value_tables (g.B.BlockStore.blocks c.copy-copied.new.store) c.in-Ok.value)) (sym c.lower.ensures.settings.seed) made)
