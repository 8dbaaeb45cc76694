use Rattle.std.proofs.Common.{[], refl, sym, subst, ap, ◌∙◌}
use Rattle.blocks.specs.Blocks.{Changes, Owned}
use Rattle.held.specs.Table.{refs, item}
use Rattle.held.specs.Databases.{table_at}
use Rattle.held.proofs.Bases.{sound_kept}
use Rattle.held.proofs.Calls.{all_gone, all_order, all_means, left_owned, left_means, left_arranged, left_changes}
use Rattle.held.proofs.Calls.{all_within}
use Rattle.held.proofs.keyspace.Keyspace.clear.Goals as goal

pub release_all-requires-clause-owned : goal.release_all-requires-clause-owned
release_all-requires-clause-owned g c =
    let m = g.B.BlockStore.blocks c.args.self.now.store in
    subst (λ t. Owned (refs (g.V.Stored.refs_of m) t) m) (sym c.take-table.ensures.taken)
    (left_owned g.V.Stored.refs_of g.V.Stored.value_of g.met.V.Stored.reads_own c.args.self.now.bases c.take-table.new.self c.args.db m m c.take-table.ensures.changes c.requires.intact
    (refs (g.V.Stored.refs_of m) (table_at c.args.self.now.bases c.args.db))
    (all_gone g.V.Stored.refs_of g.V.Stored.value_of g.met.V.Stored.reads_own c.args.self.now.bases c.take-table.new.self c.args.db _ c.take-table.ensures.changes
    c.take-table.ensures.none m)
    (all_order g.V.Stored.refs_of g.V.Stored.value_of g.met.V.Stored.reads_own c.args.self.now.bases c.take-table.new.self c.args.db _ c.take-table.ensures.changes c.take-table.ensures.none m refl))

pub release_all-requires-clause-sound : goal.release_all-requires-clause-sound
release_all-requires-clause-sound g c =
    let bases = c.args.self.now.bases in
    (bases.limits, bases.seed, λ at e found. c.requires.intact.arranged.values c.args.db at e (ap (λ t. item t at) (sym c.take-table.ensures.taken) ∙ found))

pub returns-clause-means : goal.returns-clause-means
returns-clause-means g c =
    let m = g.B.BlockStore.blocks c.args.self.now.store in
    let after = g.B.BlockStore.blocks c.release_all.new.store in
    left_means g.V.Stored.refs_of g.V.Stored.value_of g.met.V.Stored.reads_own c.args.self.now.bases c.take-table.new.self c.args.db m after c.take-table.ensures.changes c.requires.intact
    (refs (g.V.Stored.refs_of m) (table_at c.args.self.now.bases c.args.db))
    (all_gone g.V.Stored.refs_of g.V.Stored.value_of g.met.V.Stored.reads_own c.args.self.now.bases c.take-table.new.self c.args.db _ c.take-table.ensures.changes
    c.take-table.ensures.none m)
    (all_order g.V.Stored.refs_of g.V.Stored.value_of g.met.V.Stored.reads_own c.args.self.now.bases c.take-table.new.self c.args.db _ c.take-table.ensures.changes c.take-table.ensures.none m refl)
    (subst (λ t. Changes m after (refs (g.V.Stored.refs_of m) t) []) c.take-table.ensures.taken c.release_all.ensures.changes) _
    (all_means g.V.Stored.refs_of g.V.Stored.value_of g.met.V.Stored.reads_own c.args.self.now.bases c.take-table.new.self c.args.db _ c.take-table.ensures.changes
    c.take-table.ensures.none m)

pub returns-clause-sound : goal.returns-clause-sound
returns-clause-sound g c =
    let m = g.B.BlockStore.blocks c.args.self.now.store in
    let after = g.B.BlockStore.blocks c.release_all.new.store in
    sound_kept g.V.Stored.refs_of g.V.Stored.value_of g.met.V.Stored.reads_own c.args.self.now.bases c.take-table.new.self m after
    (left_changes g.V.Stored.refs_of g.V.Stored.value_of g.met.V.Stored.reads_own c.args.self.now.bases c.take-table.new.self c.args.db m after c.take-table.ensures.changes
    c.requires.intact (refs (g.V.Stored.refs_of m) (table_at c.args.self.now.bases c.args.db))
    (all_gone g.V.Stored.refs_of g.V.Stored.value_of g.met.V.Stored.reads_own c.args.self.now.bases c.take-table.new.self c.args.db _ c.take-table.ensures.changes
    c.take-table.ensures.none m)
    (all_order g.V.Stored.refs_of g.V.Stored.value_of g.met.V.Stored.reads_own c.args.self.now.bases c.take-table.new.self c.args.db _ c.take-table.ensures.changes c.take-table.ensures.none m refl)
    (subst (λ t. Changes m after (refs (g.V.Stored.refs_of m) t) []) c.take-table.ensures.taken c.release_all.ensures.changes))
    (left_arranged g.V.Stored.refs_of g.V.Stored.value_of g.met.V.Stored.reads_own c.args.self.now.bases c.take-table.new.self c.args.db m after c.take-table.ensures.changes
    c.requires.intact (refs (g.V.Stored.refs_of m) (table_at c.args.self.now.bases c.args.db))
    (all_gone g.V.Stored.refs_of g.V.Stored.value_of g.met.V.Stored.reads_own c.args.self.now.bases c.take-table.new.self c.args.db _ c.take-table.ensures.changes
    c.take-table.ensures.none m)
    (all_order g.V.Stored.refs_of g.V.Stored.value_of g.met.V.Stored.reads_own c.args.self.now.bases c.take-table.new.self c.args.db _ c.take-table.ensures.changes c.take-table.ensures.none m refl)
    (subst (λ t. Changes m after (refs (g.V.Stored.refs_of m) t) []) c.take-table.ensures.taken c.release_all.ensures.changes))

pub returns-clause-changes : goal.returns-clause-changes
returns-clause-changes g c =
    let m = g.B.BlockStore.blocks c.args.self.now.store in
    let after = g.B.BlockStore.blocks c.release_all.new.store in
    left_changes g.V.Stored.refs_of g.V.Stored.value_of g.met.V.Stored.reads_own c.args.self.now.bases c.take-table.new.self c.args.db m after c.take-table.ensures.changes
    c.requires.intact (refs (g.V.Stored.refs_of m) (table_at c.args.self.now.bases c.args.db))
    (all_gone g.V.Stored.refs_of g.V.Stored.value_of g.met.V.Stored.reads_own c.args.self.now.bases c.take-table.new.self c.args.db _ c.take-table.ensures.changes
    c.take-table.ensures.none m)
    (all_order g.V.Stored.refs_of g.V.Stored.value_of g.met.V.Stored.reads_own c.args.self.now.bases c.take-table.new.self c.args.db _ c.take-table.ensures.changes c.take-table.ensures.none m refl)
    (subst (λ t. Changes m after (refs (g.V.Stored.refs_of m) t) []) c.take-table.ensures.taken c.release_all.ensures.changes)

pub returns-clause-within : goal.returns-clause-within
returns-clause-within g c =
    let m = g.B.BlockStore.blocks c.args.self.now.store in
    let after = g.B.BlockStore.blocks c.release_all.new.store in
    all_within g.V.Stored.refs_of g.V.Stored.value_of g.met.V.Stored.reads_own c.args.self.now.bases c.take-table.new.self c.args.db _ c.take-table.ensures.changes
    c.take-table.ensures.none m after c.requires.intact refl
    (subst (λ t. Changes m after (refs (g.V.Stored.refs_of m) t) []) c.take-table.ensures.taken c.release_all.ensures.changes)
