use Rattle.std.proofs.Common.{is_some, sym, ap, ◌∙◌}
use Rattle.blocks.specs.Blocks.{no_step}
use Rattle.held.specs.Databases.{Bases, means}
use Rattle.held.proofs.Bases.{sound_kept}
use Rattle.held.proofs.Calls.{look_lacks, absent_means, absent_lacks, cleared_changes, cleared_sound, dropped_owned, dropped_sound, dropped_look, dropped_means, dropped_arranged, dropped_changes}
use Rattle.held.specs.Scopes.{no_key, Within}
use Rattle.held.proofs.Within.{within_times}
use Rattle.held.proofs.Calls.{dropped_within}
use Rattle.std.proofs.Common.{refl, subst}
use Rattle.held.proofs.keyspace.Keyspace.drop_hashed.Goals as goal

pub returns-in_default-clause-answer : goal.returns-in_default-clause-answer
returns-in_default-clause-answer g c =
    let m = g.B.BlockStore.blocks c.args.self.now.store in
    ap is_some (sym (look_lacks g.V.Stored.refs_of g.V.Stored.value_of g.met.V.Stored.reads_own c.args.self.now.bases c.args.db m c.requires.intact.arranged c.args.key.now
    (absent_lacks g.V.Stored.refs_of g.V.Stored.value_of g.met.V.Stored.reads_own c.args.self.now.bases c.clear_deadline.new.self c.args.db m c.requires.intact.arranged c.args.key.now
    c.clear_deadline.ensures.changes c.clear_deadline.ensures.moments c.clear_deadline.ensures.cleared c.clear_deadline.ensures.keyed c.in_default.ensures.none)))

pub returns-in_default-clause-means : goal.returns-in_default-clause-means
returns-in_default-clause-means g c =
    let m = g.B.BlockStore.blocks c.args.self.now.store in
    ap (λ (bases : Bases _). means g.V.Stored.value_of c.args.db bases m) c.in_default.ensures.same
    ∙ absent_means g.V.Stored.refs_of g.V.Stored.value_of g.met.V.Stored.reads_own c.args.self.now.bases c.clear_deadline.new.self c.args.db m c.requires.intact.arranged c.args.key.now
    c.clear_deadline.ensures.changes c.clear_deadline.ensures.moments c.clear_deadline.ensures.cleared c.clear_deadline.ensures.keyed c.in_default.ensures.none

pub returns-in_default-clause-sound : goal.returns-in_default-clause-sound
returns-in_default-clause-sound g c out sound =
    let m = g.B.BlockStore.blocks c.args.self.now.store in
    cleared_sound g.V.Stored.refs_of g.V.Stored.value_of g.met.V.Stored.reads_own c.args.self.now.bases c.clear_deadline.new.self c.args.db m c.requires.intact.arranged c.args.key.now
    c.clear_deadline.ensures.changes c.clear_deadline.ensures.moments c.clear_deadline.ensures.cleared c.clear_deadline.ensures.keyed c.remove.new.self c.in_default.ensures.same out
    sound

pub returns-in_default-clause-changes : goal.returns-in_default-clause-changes
returns-in_default-clause-changes g c =
    let m = g.B.BlockStore.blocks c.args.self.now.store in
    cleared_changes g.V.Stored.refs_of g.V.Stored.value_of g.met.V.Stored.reads_own c.args.self.now.bases c.clear_deadline.new.self c.remove.new.self c.args.db m c.requires.intact
    c.clear_deadline.ensures.changes c.in_default.ensures.same

pub returns-in_default-clause-served : goal.returns-in_default-clause-served
returns-in_default-clause-served g c = no_step

pub release_both-requires-clause-owned : goal.release_both-requires-clause-owned
release_both-requires-clause-owned g c =
    let m = g.B.BlockStore.blocks c.args.self.now.store in
    dropped_owned g.V.Stored.refs_of g.V.Stored.value_of g.met.V.Stored.reads_own c.args.self.now.bases c.clear_deadline.new.self c.args.db m c.requires.intact c.args.key.now
    c.clear_deadline.ensures.changes c.clear_deadline.ensures.moments c.clear_deadline.ensures.cleared c.clear_deadline.ensures.keyed c.remove.new.self c.remove.ensures.changes
    c.in-Some.at c.in-Some.value c.in-Some.ensures.removed c.remove.ensures.keyed

pub release_both-requires-clause-sound : goal.release_both-requires-clause-sound
release_both-requires-clause-sound g c =
    let m = g.B.BlockStore.blocks c.args.self.now.store in (
      c.args.self.now.bases.limits,
      c.args.self.now.bases.seed,
      dropped_sound g.V.Stored.refs_of g.V.Stored.value_of g.met.V.Stored.reads_own c.args.self.now.bases c.clear_deadline.new.self
          c.args.db m c.requires.intact c.args.key.now c.clear_deadline.ensures.changes c.clear_deadline.ensures.moments c.clear_deadline.ensures.cleared c.clear_deadline.ensures.keyed
          c.remove.new.self c.remove.ensures.changes c.in-Some.at c.in-Some.value c.in-Some.ensures.removed c.remove.ensures.keyed,
    )

pub returns-clause-answer : goal.returns-clause-answer
returns-clause-answer g c =
    let m = g.B.BlockStore.blocks c.args.self.now.store in
    ap is_some
    (sym
    (dropped_look g.V.Stored.refs_of g.V.Stored.value_of g.met.V.Stored.reads_own c.args.self.now.bases c.clear_deadline.new.self c.args.db m c.requires.intact c.args.key.now
    c.clear_deadline.ensures.changes c.clear_deadline.ensures.moments c.clear_deadline.ensures.cleared c.clear_deadline.ensures.keyed c.remove.new.self c.remove.ensures.changes
    c.in-Some.at c.in-Some.value c.in-Some.ensures.removed c.remove.ensures.keyed))

pub returns-clause-means : goal.returns-clause-means
returns-clause-means g c =
    let m = g.B.BlockStore.blocks c.args.self.now.store in
    dropped_means g.V.Stored.refs_of g.V.Stored.value_of g.met.V.Stored.reads_own c.args.self.now.bases c.clear_deadline.new.self c.args.db m c.requires.intact c.args.key.now
    c.clear_deadline.ensures.changes c.clear_deadline.ensures.moments c.clear_deadline.ensures.cleared c.clear_deadline.ensures.keyed c.remove.new.self c.remove.ensures.changes
    c.in-Some.at c.in-Some.value c.in-Some.ensures.removed c.remove.ensures.keyed
    (g.B.BlockStore.blocks c.release_both.new.store) c.release_both.ensures.changes

pub returns-clause-sound : goal.returns-clause-sound
returns-clause-sound g c =
    let m = g.B.BlockStore.blocks c.args.self.now.store in
    let after = g.B.BlockStore.blocks c.release_both.new.store in
    sound_kept g.V.Stored.refs_of g.V.Stored.value_of g.met.V.Stored.reads_own c.args.self.now.bases c.remove.new.self m after
    (dropped_changes g.V.Stored.refs_of g.V.Stored.value_of g.met.V.Stored.reads_own c.args.self.now.bases c.clear_deadline.new.self c.args.db m c.requires.intact c.args.key.now
    c.clear_deadline.ensures.changes c.clear_deadline.ensures.moments c.clear_deadline.ensures.cleared c.clear_deadline.ensures.keyed c.remove.new.self c.remove.ensures.changes
    c.in-Some.at c.in-Some.value c.in-Some.ensures.removed c.remove.ensures.keyed after c.release_both.ensures.changes)
    (dropped_arranged g.V.Stored.refs_of g.V.Stored.value_of g.met.V.Stored.reads_own c.args.self.now.bases c.clear_deadline.new.self c.args.db m c.requires.intact c.args.key.now
    c.clear_deadline.ensures.changes c.clear_deadline.ensures.moments c.clear_deadline.ensures.cleared c.clear_deadline.ensures.keyed c.remove.new.self c.remove.ensures.changes
    c.in-Some.at c.in-Some.value c.in-Some.ensures.removed c.remove.ensures.keyed after c.release_both.ensures.changes)

pub returns-clause-changes : goal.returns-clause-changes
returns-clause-changes g c =
    let m = g.B.BlockStore.blocks c.args.self.now.store in
    dropped_changes g.V.Stored.refs_of g.V.Stored.value_of g.met.V.Stored.reads_own c.args.self.now.bases c.clear_deadline.new.self c.args.db m c.requires.intact c.args.key.now
    c.clear_deadline.ensures.changes c.clear_deadline.ensures.moments c.clear_deadline.ensures.cleared c.clear_deadline.ensures.keyed c.remove.new.self c.remove.ensures.changes
    c.in-Some.at c.in-Some.value c.in-Some.ensures.removed c.remove.ensures.keyed
    (g.B.BlockStore.blocks c.release_both.new.store) c.release_both.ensures.changes

pub returns-in_default-clause-within : goal.returns-in_default-clause-within
returns-in_default-clause-within g c =
    subst
    (λ (b : Bases _). Within g.V.Stored.refs_of (no_key c.args.db) c.args.self.now.bases b (g.B.BlockStore.blocks c.args.self.now.store) (g.B.BlockStore.blocks c.args.self.now.store))
    (sym c.in_default.ensures.same)
    (within_times g.V.Stored.refs_of (no_key c.args.db) c.args.self.now.bases c.clear_deadline.new.self (g.B.BlockStore.blocks c.args.self.now.store) c.args.db refl
    c.requires.intact.arranged c.requires.db c.clear_deadline.ensures.changes c.clear_deadline.ensures.grown c.clear_deadline.ensures.cursor)

pub returns-clause-within : goal.returns-clause-within
returns-clause-within g c = dropped_within g.V.Stored.refs_of g.V.Stored.value_of g.met.V.Stored.reads_own c.args.self.now.bases c.clear_deadline.new.self c.args.db
    (g.B.BlockStore.blocks c.args.self.now.store) c.requires.intact c.args.key.now c.clear_deadline.ensures.changes c.clear_deadline.ensures.moments c.clear_deadline.ensures.cleared
    c.clear_deadline.ensures.keyed c.remove.new.self c.remove.ensures.changes c.in-Some.at c.in-Some.value c.in-Some.ensures.removed c.remove.ensures.keyed c.clear_deadline.ensures.grown
    c.clear_deadline.ensures.cursor c.remove.ensures.grown c.requires.db (g.B.BlockStore.blocks c.release_both.new.store) c.release_both.ensures.changes
