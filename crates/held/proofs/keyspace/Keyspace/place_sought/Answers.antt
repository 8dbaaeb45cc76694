use Rattle.std.proofs.Common.{[], sym, ap, subst}
use Rattle.blocks.specs.Blocks.{Blocks, Changes, Owned, Served, no_step}
use Rattle.held.proofs.Calls.{put_owned, put_was, put_over, put_only, put_blocks, put_arranged, put_changes}
use Rattle.held.proofs.Calls.{put_within}
use Rattle.held.specs.Scopes.{one_key, Within}
use Rattle.held.proofs.Within.{within_keys}
use Rattle.std.proofs.Common.{◌≡◌}
use Rattle.held.proofs.keyspace.Keyspace.place_sought.Goals as goal

pub returns-in-Err-clause-served : goal.returns-in-Err-clause-served
returns-in-Err-clause-served g c = subst (Served g.B.BlockStore.step c.args.self.now.store) (sym c.retime.ensures.store) no_step

pub release-requires-clause-owned : goal.release-requires-clause-owned
release-requires-clause-owned g c =
    let m = g.B.BlockStore.blocks c.args.self.now.store in
    let after = m in
    subst (λ (b : Blocks). Owned (g.V.Stored.refs_of b c.swap_value-was.result) b) (sym (ap g.B.BlockStore.blocks c.retime.ensures.store))
    (put_owned g.V.Stored.refs_of g.V.Stored.value_of g.met.V.Stored.reads_own c.args.self.now.bases c.retime.new.self.bases c.swap_value-was.new.self c.args.db m after c.in-Some.at
    c.args.key.now c.swap_value-was.result c.args.value c.args.deadline c.requires.intact c.retime.ensures.changes c.retime.ensures.arranged c.in_default.ensures.times
    (rw c.in-Some.is at c.requires.seeks.stands) c.swap_value-was.ensures.changes c.swap_value-was.ensures.swaps
    (c.swap_value-was.ensures.keyed m (c.retime.ensures.arranged.keyed c.args.db)))

pub release-requires-clause-sound : goal.release-requires-clause-sound
release-requires-clause-sound g c =
    let m = g.B.BlockStore.blocks c.args.self.now.store in
    let after = m in (
      c.retime.new.self.bases.limits,
      c.retime.new.self.bases.seed,
      subst
          (λ (b : Blocks). g.V.Stored.IsSound c.retime.new.self.bases.limits c.retime.new.self.bases.seed b c.swap_value-was.result) (sym (ap g.B.BlockStore.blocks c.retime.ensures.store))
          (put_was g.V.Stored.refs_of g.V.Stored.value_of g.met.V.Stored.reads_own c.args.self.now.bases c.retime.new.self.bases c.swap_value-was.new.self c.args.db m after c.in-Some.at
          c.args.key.now c.swap_value-was.result c.args.value c.args.deadline c.requires.intact c.retime.ensures.changes c.retime.ensures.arranged c.in_default.ensures.times
          (rw c.in-Some.is at c.requires.seeks.stands) c.swap_value-was.ensures.changes c.swap_value-was.ensures.swaps
          (c.swap_value-was.ensures.keyed m (c.retime.ensures.arranged.keyed c.args.db))),
    )

pub returns-in_default-clause-means : goal.returns-in_default-clause-means
returns-in_default-clause-means g c =
    let m = g.B.BlockStore.blocks c.args.self.now.store in
    let after = g.B.BlockStore.blocks c.release.new.store in
    put_over g.V.Stored.refs_of g.V.Stored.value_of g.met.V.Stored.reads_own c.args.self.now.bases c.retime.new.self.bases c.swap_value-was.new.self c.args.db m after c.in-Some.at
    c.args.key.now c.swap_value-was.result c.args.value c.args.deadline c.requires.intact c.retime.ensures.changes c.retime.ensures.arranged c.in_default.ensures.times
    (rw c.in-Some.is at c.requires.seeks.stands) c.swap_value-was.ensures.changes c.swap_value-was.ensures.swaps
    (c.swap_value-was.ensures.keyed m (c.retime.ensures.arranged.keyed c.args.db))
    (subst (λ (b : Blocks). Changes b after (g.V.Stored.refs_of b c.swap_value-was.result) []) (ap g.B.BlockStore.blocks c.retime.ensures.store) c.release.ensures.changes)

pub returns-in_default-clause-changes : goal.returns-in_default-clause-changes
returns-in_default-clause-changes g c =
    let m = g.B.BlockStore.blocks c.args.self.now.store in
    let after = g.B.BlockStore.blocks c.release.new.store in
    put_changes g.V.Stored.refs_of g.V.Stored.value_of g.met.V.Stored.reads_own c.args.self.now.bases c.retime.new.self.bases c.swap_value-was.new.self c.args.db m after c.in-Some.at
    c.args.key.now c.swap_value-was.result c.args.value c.args.deadline c.requires.intact c.retime.ensures.changes c.retime.ensures.arranged c.in_default.ensures.times
    (rw c.in-Some.is at c.requires.seeks.stands) c.swap_value-was.ensures.changes c.swap_value-was.ensures.swaps
    (c.swap_value-was.ensures.keyed m (c.retime.ensures.arranged.keyed c.args.db))
    (subst (λ (b : Blocks). Changes b after (g.V.Stored.refs_of b c.swap_value-was.result) []) (ap g.B.BlockStore.blocks c.retime.ensures.store) c.release.ensures.changes)

pub returns-in_default-clause-arranged : goal.returns-in_default-clause-arranged
returns-in_default-clause-arranged g c =
    let m = g.B.BlockStore.blocks c.args.self.now.store in
    let after = g.B.BlockStore.blocks c.release.new.store in
    put_arranged g.V.Stored.refs_of g.V.Stored.value_of g.met.V.Stored.reads_own c.args.self.now.bases c.retime.new.self.bases c.swap_value-was.new.self c.args.db m after c.in-Some.at
    c.args.key.now c.swap_value-was.result c.args.value c.args.deadline c.requires.intact c.retime.ensures.changes c.retime.ensures.arranged c.in_default.ensures.times
    (rw c.in-Some.is at c.requires.seeks.stands) c.swap_value-was.ensures.changes c.swap_value-was.ensures.swaps
    (c.swap_value-was.ensures.keyed m (c.retime.ensures.arranged.keyed c.args.db))
    (subst (λ (b : Blocks). Changes b after (g.V.Stored.refs_of b c.swap_value-was.result) []) (ap g.B.BlockStore.blocks c.retime.ensures.store) c.release.ensures.changes)

pub returns-in_default-clause-within : goal.returns-in_default-clause-within
returns-in_default-clause-within g c =
    let m = g.B.BlockStore.blocks c.args.self.now.store in
    let after = g.B.BlockStore.blocks c.release.new.store in
    put_within g.V.Stored.refs_of g.V.Stored.value_of g.met.V.Stored.reads_own c.args.self.now.bases c.retime.new.self.bases c.swap_value-was.new.self c.args.db m after c.in-Some.at
    c.args.key.now c.swap_value-was.result c.args.value c.args.deadline c.requires.intact c.retime.ensures.changes c.retime.ensures.arranged c.in_default.ensures.times
    (rw c.in-Some.is at c.requires.seeks.stands) c.swap_value-was.ensures.changes c.swap_value-was.ensures.swaps
    (c.swap_value-was.ensures.keyed m (c.retime.ensures.arranged.keyed c.args.db))
    (subst (λ (b : Blocks). Changes b after (g.V.Stored.refs_of b c.swap_value-was.result) []) (ap g.B.BlockStore.blocks c.retime.ensures.store) c.release.ensures.changes)
    c.retime.ensures.within (c.swap_value-was.ensures.tables m)

pub returns-in-Err-clause-within : goal.returns-in-Err-clause-within
returns-in-Err-clause-within g c =
    subst (λ (b : Blocks). Within g.V.Stored.refs_of (one_key c.args.db c.args.key.now) c.args.self.now.bases c.retime.new.self.bases (g.B.BlockStore.blocks c.args.self.now.store) b)
    (sym (ap g.B.BlockStore.blocks c.retime.ensures.store))
    (within_keys g.V.Stored.refs_of c.args.db (λ other. other ≡ c.args.key.now) c.args.self.now.bases c.retime.new.self.bases (g.B.BlockStore.blocks c.args.self.now.store)
    (g.B.BlockStore.blocks c.args.self.now.store) c.retime.ensures.within)

pub returns-in_default-clause-has : goal.returns-in_default-clause-has
returns-in_default-clause-has g c =
    let m = g.B.BlockStore.blocks c.args.self.now.store in
    let after = g.B.BlockStore.blocks c.release.new.store in
    put_only g.V.Stored.refs_of g.V.Stored.value_of g.met.V.Stored.reads_own c.args.self.now.bases c.retime.new.self.bases c.swap_value-was.new.self c.args.db m after c.in-Some.at
    c.args.key.now c.swap_value-was.result c.args.value c.args.deadline c.requires.intact c.retime.ensures.changes c.retime.ensures.arranged c.in_default.ensures.times
    (rw c.in-Some.is at c.requires.seeks.stands) c.swap_value-was.ensures.changes c.swap_value-was.ensures.swaps
    (c.swap_value-was.ensures.keyed m (c.retime.ensures.arranged.keyed c.args.db))
    (subst (λ (b : Blocks). Changes b after (g.V.Stored.refs_of b c.swap_value-was.result) []) (ap g.B.BlockStore.blocks c.retime.ensures.store) c.release.ensures.changes)

pub returns-in_default-clause-value_blocks : goal.returns-in_default-clause-value_blocks
returns-in_default-clause-value_blocks g c =
    let m = g.B.BlockStore.blocks c.args.self.now.store in
    let after = g.B.BlockStore.blocks c.release.new.store in
    put_blocks g.V.Stored.refs_of g.V.Stored.value_of g.met.V.Stored.reads_own c.args.self.now.bases c.retime.new.self.bases c.swap_value-was.new.self c.args.db m after c.in-Some.at
    c.args.key.now c.swap_value-was.result c.args.value c.args.deadline c.requires.intact c.retime.ensures.changes c.retime.ensures.arranged c.in_default.ensures.times
    (rw c.in-Some.is at c.requires.seeks.stands) c.swap_value-was.ensures.changes c.swap_value-was.ensures.swaps
    (c.swap_value-was.ensures.keyed m (c.retime.ensures.arranged.keyed c.args.db))
    (subst (λ (b : Blocks). Changes b after (g.V.Stored.refs_of b c.swap_value-was.result) []) (ap g.B.BlockStore.blocks c.retime.ensures.store) c.release.ensures.changes)
