use Rattle.held.proofs.Calls.{lowered_means, lowered_sound}
use Rattle.held.specs.Scopes.{one_key}
use Rattle.held.proofs.Within.{within_swaps}
use Rattle.std.proofs.Common.{refl}
use Rattle.held.proofs.Tables.{some_bytes}
use Rattle.held.proofs.Calls.{only_here, swapped_key}
use Rattle.held.proofs.keyspace.Keyspace.lower.Goals as goal

pub returns-clause-means : goal.returns-clause-means
returns-clause-means g c =
    lowered_means g.V.Stored.refs_of g.V.Stored.value_of g.met.V.Stored.reads_own c.args.self.now.bases c.swap_value-zero.new.self c.args.lifted.db
    (g.B.BlockStore.blocks c.args.self.now.store) c.swap_value-zero.ensures.changes c.args.lifted.item c.swap_value-zero.result c.args.lifted.value c.swap_value-zero.ensures.swaps
    (c.swap_value-zero.ensures.keyed (g.B.BlockStore.blocks c.args.self.now.store) (c.requires.intact.arranged.keyed c.args.lifted.db))
    c.requires.intact g.V.Stored.vacant g.met.V.Stored.is_blank c.requires.vacant

pub returns-clause-sound : goal.returns-clause-sound
returns-clause-sound g c =
    lowered_sound g.V.Stored.refs_of g.V.Stored.value_of g.met.V.Stored.reads_own c.args.self.now.bases c.swap_value-zero.new.self c.args.lifted.db
    (g.B.BlockStore.blocks c.args.self.now.store) c.swap_value-zero.ensures.changes c.args.lifted.item c.swap_value-zero.result c.args.lifted.value c.swap_value-zero.ensures.swaps
    (c.swap_value-zero.ensures.keyed (g.B.BlockStore.blocks c.args.self.now.store) (c.requires.intact.arranged.keyed c.args.lifted.db))
    c.requires.intact g.V.Stored.vacant g.met.V.Stored.is_blank c.requires.vacant

pub returns-clause-within : goal.returns-clause-within
returns-clause-within g c key deadline place =
    within_swaps g.V.Stored.refs_of (one_key c.args.lifted.db key) c.args.self.now.bases c.swap_value-zero.new.self (g.B.BlockStore.blocks c.args.self.now.store) c.args.lifted.db refl
    c.swap_value-zero.ensures.changes c.args.lifted.item c.swap_value-zero.result c.args.lifted.value c.swap_value-zero.ensures.swaps
    (c.swap_value-zero.ensures.tables (g.B.BlockStore.blocks c.args.self.now.store)) (
      refl,
      some_bytes (g.B.BlockStore.blocks c.args.self.now.store) c.swap_value-zero.ensures.swaps.key key
          (swapped_key g.V.Stored.refs_of g.V.Stored.value_of g.met.V.Stored.reads_own c.args.self.now.bases c.swap_value-zero.new.self c.args.lifted.db
          (g.B.BlockStore.blocks c.args.self.now.store) c.swap_value-zero.ensures.changes c.args.lifted.item c.swap_value-zero.result c.args.lifted.value c.swap_value-zero.ensures.swaps
          (c.swap_value-zero.ensures.keyed (g.B.BlockStore.blocks c.args.self.now.store) (c.requires.intact.arranged.keyed c.args.lifted.db)) c.requires.intact.arranged key
          (record { element = place.element; found = place.found; bytes = place.bytes })),
    )

pub returns-clause-has : goal.returns-clause-has
returns-clause-has g c key deadline place =
    let m = g.B.BlockStore.blocks c.args.self.now.store in
    let swaps = c.swap_value-zero.ensures.swaps in
    let keyed = c.swap_value-zero.ensures.keyed m (c.requires.intact.arranged.keyed c.args.lifted.db) in
    only_here g.V.Stored.refs_of g.V.Stored.value_of g.met.V.Stored.reads_own c.swap_value-zero.new.self m c.args.lifted.db key c.args.lifted.item
    (record { key = swaps.key; hash = swaps.hash; value = c.args.lifted.value }) keyed swaps.updates.changed
    (swapped_key g.V.Stored.refs_of g.V.Stored.value_of g.met.V.Stored.reads_own c.args.self.now.bases c.swap_value-zero.new.self c.args.lifted.db m c.swap_value-zero.ensures.changes
    c.args.lifted.item c.swap_value-zero.result c.args.lifted.value swaps keyed c.requires.intact.arranged key
    (record { element = place.element; found = place.found; bytes = place.bytes }))
