use Rattle.std.proofs.Common.{◌≡◌, subst}
use Rattle.blocks.proofs.Serve.{served_then}
use Rattle.held.specs.Databases.{means}
use Rattle.held.specs.Sound.{IsArranged}
use Rattle.held.proofs.Bases.{sound_joined}
use Rattle.held.proofs.Calls.{refused_owned, returned_owned, returned_sound, returned_changes, refused_means, refused_arranged, refused_changes}
use Rattle.held.specs.Scopes.{one_key, Within}
use Rattle.held.proofs.Calls.{refused_within}
use Rattle.held.proofs.keyspace.Keyspace.put_sought.Goals as goal

pub returns-in-Ok-clause-sound : goal.returns-in-Ok-clause-sound
returns-in-Ok-clause-sound g c =
    sound_joined g.V.Stored.refs_of g.V.Stored.value_of g.met.V.Stored.reads_own c.args.self.now.bases c.place_sought.new.self.bases (g.B.BlockStore.blocks c.args.self.now.store)
    (g.B.BlockStore.blocks c.place_sought.new.self.store) (g.V.Stored.refs_of (g.B.BlockStore.blocks c.args.self.now.store) c.args.value) c.in-Ok.ensures.changes
    c.in-Ok.ensures.arranged

pub release-requires-clause-owned : goal.release-requires-clause-owned
release-requires-clause-owned g c =
    returned_owned g.V.Stored.refs_of g.V.Stored.value_of g.met.V.Stored.reads_own c.args.self.now.bases (g.B.BlockStore.blocks c.args.self.now.store)
    (g.B.BlockStore.blocks c.place_sought.new.self.store) c.args.value c.in-Err.value c.requires.intact c.in-Err.ensures.value_returned c.in-Err.ensures.err_blocks

pub release-requires-clause-sound : goal.release-requires-clause-sound
release-requires-clause-sound g c = (
  c.args.self.now.bases.limits,
  c.args.self.now.bases.seed,
  returned_sound g.V.Stored.refs_of g.V.Stored.value_of g.met.V.Stored.reads_own c.args.self.now.bases
      (g.B.BlockStore.blocks c.args.self.now.store) (g.B.BlockStore.blocks c.place_sought.new.self.store) c.args.value c.in-Err.value c.requires.intact c.in-Err.ensures.value_returned
      c.in-Err.ensures.err_blocks,
)

pub returns-in-Err-clause-kept : goal.returns-in-Err-clause-kept
returns-in-Err-clause-kept g c =
    refused_means g.V.Stored.refs_of g.V.Stored.value_of g.met.V.Stored.reads_own c.args.self.now.bases c.place_sought.new.self.bases (g.B.BlockStore.blocks c.args.self.now.store)
    (g.B.BlockStore.blocks c.release.new.store) c.args.value c.requires.intact
    (subst (λ b. IsArranged g.V.Stored.IsSound c.place_sought.new.self.bases b) c.in-Err.ensures.err_blocks c.in-Err.ensures.arranged)
    (refused_owned g.V.Stored.refs_of g.V.Stored.value_of g.met.V.Stored.reads_own c.args.self.now.bases c.place_sought.new.self.bases (g.B.BlockStore.blocks c.args.self.now.store)
    (g.B.BlockStore.blocks c.place_sought.new.self.store) c.in-Err.ensures.err_blocks c.in-Err.ensures.err_owned)
    (returned_changes g.V.Stored.refs_of g.V.Stored.value_of g.met.V.Stored.reads_own (g.B.BlockStore.blocks c.args.self.now.store)
    (g.B.BlockStore.blocks c.place_sought.new.self.store) (g.B.BlockStore.blocks c.release.new.store) c.args.value c.in-Err.value c.in-Err.ensures.value_returned
    c.in-Err.ensures.err_blocks c.release.ensures.changes) c.args.db
    (subst
    (λ b. means g.V.Stored.value_of c.args.db c.place_sought.new.self.bases b ≡ means g.V.Stored.value_of c.args.db c.args.self.now.bases (g.B.BlockStore.blocks c.args.self.now.store))
    c.in-Err.ensures.err_blocks c.in-Err.ensures.kept)

pub returns-in-Err-clause-changes : goal.returns-in-Err-clause-changes
returns-in-Err-clause-changes g c = refused_changes g.V.Stored.refs_of g.V.Stored.value_of g.met.V.Stored.reads_own c.args.self.now.bases c.place_sought.new.self.bases
    (g.B.BlockStore.blocks c.args.self.now.store) (g.B.BlockStore.blocks c.release.new.store) c.args.value c.requires.intact
    (subst (λ b. IsArranged g.V.Stored.IsSound c.place_sought.new.self.bases b) c.in-Err.ensures.err_blocks c.in-Err.ensures.arranged)
    (refused_owned g.V.Stored.refs_of g.V.Stored.value_of g.met.V.Stored.reads_own c.args.self.now.bases c.place_sought.new.self.bases (g.B.BlockStore.blocks c.args.self.now.store)
    (g.B.BlockStore.blocks c.place_sought.new.self.store) c.in-Err.ensures.err_blocks c.in-Err.ensures.err_owned)
    (returned_changes g.V.Stored.refs_of g.V.Stored.value_of g.met.V.Stored.reads_own (g.B.BlockStore.blocks c.args.self.now.store) (g.B.BlockStore.blocks c.place_sought.new.self.store)
    (g.B.BlockStore.blocks c.release.new.store) c.args.value c.in-Err.value c.in-Err.ensures.value_returned c.in-Err.ensures.err_blocks c.release.ensures.changes)

pub returns-in-Err-clause-err_blocks : goal.returns-in-Err-clause-err_blocks
returns-in-Err-clause-err_blocks g c = returned_changes g.V.Stored.refs_of g.V.Stored.value_of g.met.V.Stored.reads_own (g.B.BlockStore.blocks c.args.self.now.store)
    (g.B.BlockStore.blocks c.place_sought.new.self.store) (g.B.BlockStore.blocks c.release.new.store) c.args.value c.in-Err.value c.in-Err.ensures.value_returned
    c.in-Err.ensures.err_blocks c.release.ensures.changes

pub returns-in-Err-clause-sound : goal.returns-in-Err-clause-sound
returns-in-Err-clause-sound g c =
    sound_joined g.V.Stored.refs_of g.V.Stored.value_of g.met.V.Stored.reads_own c.args.self.now.bases c.place_sought.new.self.bases (g.B.BlockStore.blocks c.args.self.now.store)
    (g.B.BlockStore.blocks c.release.new.store) (g.V.Stored.refs_of (g.B.BlockStore.blocks c.args.self.now.store) c.args.value)
    (refused_changes g.V.Stored.refs_of g.V.Stored.value_of g.met.V.Stored.reads_own c.args.self.now.bases c.place_sought.new.self.bases (g.B.BlockStore.blocks c.args.self.now.store)
    (g.B.BlockStore.blocks c.release.new.store) c.args.value c.requires.intact
    (subst (λ b. IsArranged g.V.Stored.IsSound c.place_sought.new.self.bases b) c.in-Err.ensures.err_blocks c.in-Err.ensures.arranged)
    (refused_owned g.V.Stored.refs_of g.V.Stored.value_of g.met.V.Stored.reads_own c.args.self.now.bases c.place_sought.new.self.bases (g.B.BlockStore.blocks c.args.self.now.store)
    (g.B.BlockStore.blocks c.place_sought.new.self.store) c.in-Err.ensures.err_blocks c.in-Err.ensures.err_owned)
    (returned_changes g.V.Stored.refs_of g.V.Stored.value_of g.met.V.Stored.reads_own (g.B.BlockStore.blocks c.args.self.now.store)
    (g.B.BlockStore.blocks c.place_sought.new.self.store) (g.B.BlockStore.blocks c.release.new.store) c.args.value c.in-Err.value c.in-Err.ensures.value_returned
    c.in-Err.ensures.err_blocks c.release.ensures.changes))
    (refused_arranged g.V.Stored.refs_of g.V.Stored.value_of g.met.V.Stored.reads_own c.args.self.now.bases c.place_sought.new.self.bases (g.B.BlockStore.blocks c.args.self.now.store)
    (g.B.BlockStore.blocks c.release.new.store) c.args.value c.requires.intact
    (subst (λ b. IsArranged g.V.Stored.IsSound c.place_sought.new.self.bases b) c.in-Err.ensures.err_blocks c.in-Err.ensures.arranged)
    (refused_owned g.V.Stored.refs_of g.V.Stored.value_of g.met.V.Stored.reads_own c.args.self.now.bases c.place_sought.new.self.bases (g.B.BlockStore.blocks c.args.self.now.store)
    (g.B.BlockStore.blocks c.place_sought.new.self.store) c.in-Err.ensures.err_blocks c.in-Err.ensures.err_owned)
    (returned_changes g.V.Stored.refs_of g.V.Stored.value_of g.met.V.Stored.reads_own (g.B.BlockStore.blocks c.args.self.now.store)
    (g.B.BlockStore.blocks c.place_sought.new.self.store) (g.B.BlockStore.blocks c.release.new.store) c.args.value c.in-Err.value c.in-Err.ensures.value_returned
    c.in-Err.ensures.err_blocks c.release.ensures.changes))

pub returns-in-Err-clause-served : goal.returns-in-Err-clause-served
returns-in-Err-clause-served g c = served_then _ _ _ c.place_sought.ensures.served c.release.ensures.served

pub returns-in-Err-clause-within : goal.returns-in-Err-clause-within
returns-in-Err-clause-within g c =
    refused_within g.V.Stored.refs_of g.V.Stored.value_of g.met.V.Stored.reads_own c.args.self.now.bases c.place_sought.new.self.bases (g.B.BlockStore.blocks c.args.self.now.store)
    (g.B.BlockStore.blocks c.release.new.store) c.args.value c.requires.intact
    (subst (λ b. IsArranged g.V.Stored.IsSound c.place_sought.new.self.bases b) c.in-Err.ensures.err_blocks c.in-Err.ensures.arranged)
    (refused_owned g.V.Stored.refs_of g.V.Stored.value_of g.met.V.Stored.reads_own c.args.self.now.bases c.place_sought.new.self.bases (g.B.BlockStore.blocks c.args.self.now.store)
    (g.B.BlockStore.blocks c.place_sought.new.self.store) c.in-Err.ensures.err_blocks c.in-Err.ensures.err_owned)
    (returned_changes g.V.Stored.refs_of g.V.Stored.value_of g.met.V.Stored.reads_own (g.B.BlockStore.blocks c.args.self.now.store)
    (g.B.BlockStore.blocks c.place_sought.new.self.store) (g.B.BlockStore.blocks c.release.new.store) c.args.value c.in-Err.value c.in-Err.ensures.value_returned
    c.in-Err.ensures.err_blocks c.release.ensures.changes) (one_key c.args.db c.args.key.now)
    (subst (λ b. Within g.V.Stored.refs_of (one_key c.args.db c.args.key.now) c.args.self.now.bases c.place_sought.new.self.bases (g.B.BlockStore.blocks c.args.self.now.store) b)
    c.in-Err.ensures.err_blocks c.place_sought.ensures.within)
