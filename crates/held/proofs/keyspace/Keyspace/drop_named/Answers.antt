use Rattle.std.proofs.Common.{◌≡◌, sym, subst}
use Rattle.held.specs.Databases.{means}
use Rattle.held.specs.Worlds.{without}
use Rattle.held.proofs.Tables.{some_bytes}
use Rattle.held.proofs.Purging.{drops_loses}
use Rattle.held.proofs.Calls.{dropped_owned, dropped_sound, dropped_means, dropped_arranged, dropped_changes}
use Rattle.held.proofs.Calls.{dropped_within}
use Rattle.held.proofs.Dropping.{named_thinned}
use Rattle.held.proofs.keyspace.Keyspace.drop_named.Goals as goal

pub release_both-requires-clause-owned : goal.release_both-requires-clause-owned
release_both-requires-clause-owned g c =
    dropped_owned g.V.Stored.refs_of g.V.Stored.value_of g.met.V.Stored.reads_own c.args.self.now.bases c.clear_deadline.new.self c.args.db (g.B.BlockStore.blocks c.args.self.now.store)
    c.requires.intact c.bytes-key.result.now c.clear_deadline.ensures.changes c.clear_deadline.ensures.moments c.clear_deadline.ensures.cleared c.clear_deadline.ensures.keyed
    c.remove.new.self c.remove.ensures.changes c.in-Some.at c.in-Some.value c.in-Some.ensures.removed c.remove.ensures.keyed

pub release_both-requires-clause-sound : goal.release_both-requires-clause-sound
release_both-requires-clause-sound g c = (
  c.args.self.now.bases.limits,
  c.args.self.now.bases.seed,
  dropped_sound g.V.Stored.refs_of g.V.Stored.value_of g.met.V.Stored.reads_own c.args.self.now.bases c.clear_deadline.new.self
      c.args.db (g.B.BlockStore.blocks c.args.self.now.store) c.requires.intact c.bytes-key.result.now c.clear_deadline.ensures.changes c.clear_deadline.ensures.moments
      c.clear_deadline.ensures.cleared c.clear_deadline.ensures.keyed c.remove.new.self c.remove.ensures.changes c.in-Some.at c.in-Some.value c.in-Some.ensures.removed
      c.remove.ensures.keyed,
)

pub returns-clause-means : goal.returns-clause-means
returns-clause-means g c =
    subst
    (λ key. means g.V.Stored.value_of c.args.db c.remove.new.self (g.B.BlockStore.blocks c.release_both.new.store) ≡ without
    (means g.V.Stored.value_of c.args.db c.args.self.now.bases (g.B.BlockStore.blocks c.args.self.now.store)) key)
    (sym (some_bytes (g.B.BlockStore.blocks c.args.self.now.store) c.args.name c.bytes-key.result.now c.bytes-key.ensures))
    (dropped_means g.V.Stored.refs_of g.V.Stored.value_of g.met.V.Stored.reads_own c.args.self.now.bases c.clear_deadline.new.self c.args.db (g.B.BlockStore.blocks c.args.self.now.store)
    c.requires.intact c.bytes-key.result.now c.clear_deadline.ensures.changes c.clear_deadline.ensures.moments c.clear_deadline.ensures.cleared c.clear_deadline.ensures.keyed
    c.remove.new.self c.remove.ensures.changes c.in-Some.at c.in-Some.value c.in-Some.ensures.removed c.remove.ensures.keyed (g.B.BlockStore.blocks c.release_both.new.store)
    c.release_both.ensures.changes)

pub returns-clause-loses : goal.returns-clause-loses
returns-clause-loses g c =
    drops_loses (g.B.BlockStore.blocks c.args.self.now.store) c.args.self.now.bases c.clear_deadline.new.self c.remove.new.self c.args.db c.bytes-key.result.now _
    (some_bytes (g.B.BlockStore.blocks c.args.self.now.store) c.args.name c.bytes-key.result.now c.bytes-key.ensures) c.remove.ensures.changes c.clear_deadline.ensures.cleared
    (c.requires.intact.arranged.timed c.args.db).keyed

pub returns-clause-arranged : goal.returns-clause-arranged
returns-clause-arranged g c =
    dropped_arranged g.V.Stored.refs_of g.V.Stored.value_of g.met.V.Stored.reads_own c.args.self.now.bases c.clear_deadline.new.self c.args.db (g.B.BlockStore.blocks c.args.self.now.store)
    c.requires.intact c.bytes-key.result.now c.clear_deadline.ensures.changes c.clear_deadline.ensures.moments c.clear_deadline.ensures.cleared c.clear_deadline.ensures.keyed
    c.remove.new.self c.remove.ensures.changes c.in-Some.at c.in-Some.value c.in-Some.ensures.removed c.remove.ensures.keyed (g.B.BlockStore.blocks c.release_both.new.store)
    c.release_both.ensures.changes

pub returns-clause-changes : goal.returns-clause-changes
returns-clause-changes g c =
    dropped_changes g.V.Stored.refs_of g.V.Stored.value_of g.met.V.Stored.reads_own c.args.self.now.bases c.clear_deadline.new.self c.args.db (g.B.BlockStore.blocks c.args.self.now.store)
    c.requires.intact c.bytes-key.result.now c.clear_deadline.ensures.changes c.clear_deadline.ensures.moments c.clear_deadline.ensures.cleared c.clear_deadline.ensures.keyed
    c.remove.new.self c.remove.ensures.changes c.in-Some.at c.in-Some.value c.in-Some.ensures.removed c.remove.ensures.keyed (g.B.BlockStore.blocks c.release_both.new.store)
    c.release_both.ensures.changes

pub returns-clause-within : goal.returns-clause-within
returns-clause-within g c = dropped_within g.V.Stored.refs_of g.V.Stored.value_of g.met.V.Stored.reads_own c.args.self.now.bases c.clear_deadline.new.self c.args.db
    (g.B.BlockStore.blocks c.args.self.now.store) c.requires.intact c.bytes-key.result.now c.clear_deadline.ensures.changes c.clear_deadline.ensures.moments
    c.clear_deadline.ensures.cleared c.clear_deadline.ensures.keyed c.remove.new.self c.remove.ensures.changes c.in-Some.at c.in-Some.value c.in-Some.ensures.removed c.remove.ensures.keyed
    c.clear_deadline.ensures.grown c.clear_deadline.ensures.cursor c.remove.ensures.grown c.requires.db (g.B.BlockStore.blocks c.release_both.new.store) c.release_both.ensures.changes

pub returns-clause-thinned : goal.returns-clause-thinned
returns-clause-thinned g c =
    named_thinned g.V.Stored.refs_of c.args.self.now.bases c.clear_deadline.new.self c.remove.new.self (g.B.BlockStore.blocks c.args.self.now.store)
    (g.B.BlockStore.blocks c.release_both.new.store) c.args.db c.args.name c.in-Some.at c.bytes-key.result.now c.in-Some.value c.requires.intact.arranged c.requires.named
    c.bytes-key.ensures
    c.clear_deadline.ensures.changes c.clear_deadline.ensures.cleared c.remove.ensures.changes c.in-Some.ensures.removed c.in-Some.ensures.tables
    (dropped_arranged g.V.Stored.refs_of g.V.Stored.value_of g.met.V.Stored.reads_own c.args.self.now.bases c.clear_deadline.new.self c.args.db
    (g.B.BlockStore.blocks c.args.self.now.store) c.requires.intact c.bytes-key.result.now c.clear_deadline.ensures.changes c.clear_deadline.ensures.moments
    c.clear_deadline.ensures.cleared c.clear_deadline.ensures.keyed c.remove.new.self c.remove.ensures.changes c.in-Some.at c.in-Some.value c.in-Some.ensures.removed
    c.remove.ensures.keyed (g.B.BlockStore.blocks c.release_both.new.store) c.release_both.ensures.changes)
    (dropped_within g.V.Stored.refs_of g.V.Stored.value_of g.met.V.Stored.reads_own c.args.self.now.bases c.clear_deadline.new.self c.args.db (g.B.BlockStore.blocks c.args.self.now.store)
    c.requires.intact c.bytes-key.result.now c.clear_deadline.ensures.changes c.clear_deadline.ensures.moments c.clear_deadline.ensures.cleared c.clear_deadline.ensures.keyed
    c.remove.new.self c.remove.ensures.changes c.in-Some.at c.in-Some.value c.in-Some.ensures.removed c.remove.ensures.keyed c.clear_deadline.ensures.grown
    c.clear_deadline.ensures.cursor c.remove.ensures.grown c.requires.db (g.B.BlockStore.blocks c.release_both.new.store) c.release_both.ensures.changes)
