use Rattle.std.proofs.Common.{◌≡◌, inl, inr, ap, ◌∙◌, rules}
use Rattle.blocks.specs.Blocks.{Blocks}
use Rattle.held.specs.Databases.{table_at, deadlines_at}
use Rattle.held.specs.Shrinking.{Shrinks, BeginsToShrink}
use Rattle.expiry.specs.Timed.{Timed}
use Rattle.rehash_dict.specs.Tables.{shrunk}
use Rattle.rehash_dict.specs.Keyed.{key_tables}
use Rattle.held.proofs.Shrinking.{keys_shrink, both_shrink, items_means, items_sound}
use Rattle.held.specs.Scopes.{no_key}
use Rattle.held.proofs.Within.{within_then, within_items, within_times}
use Rattle.held.proofs.Shrinking.{items_arranged}
use Rattle.std.proofs.Common.{refl}
use Rattle.held.proofs.keyspace.Keyspace.shrink.Goals as goal

pub returns-in_err-_of_keys-clause-means : goal.returns-in_err-_of_keys-clause-means
returns-in_err-_of_keys-clause-means g c = items_means g.V.Stored.refs_of g.V.Stored.value_of g.met.V.Stored.reads_own c.args.self.now.bases c.shrink_keys.new.self
    (g.B.BlockStore.blocks c.args.self.now.store) c.args.db c.requires.intact.arranged
    (keys_shrink g.V.Stored.refs_of g.V.Stored.value_of g.met.V.Stored.reads_own c.args.self.now.bases c.shrink_keys.new.self (g.B.BlockStore.blocks c.args.self.now.store) c.args.db
    c.requires.intact.arranged c.shrink_keys.ensures.changes c.shrink_keys.ensures.items
    (c.shrink_keys.ensures.keyed (g.B.BlockStore.blocks c.args.self.now.store) (c.requires.intact.arranged.keyed c.args.db)) c.shrink_keys.ensures.seed)

pub returns-in_err-_of_keys-clause-sound : goal.returns-in_err-_of_keys-clause-sound
returns-in_err-_of_keys-clause-sound g c = items_sound g.V.Stored.refs_of g.V.Stored.value_of g.met.V.Stored.reads_own c.args.self.now.bases c.shrink_keys.new.self
    (g.B.BlockStore.blocks c.args.self.now.store) c.args.db c.requires.intact.arranged
    (keys_shrink g.V.Stored.refs_of g.V.Stored.value_of g.met.V.Stored.reads_own c.args.self.now.bases c.shrink_keys.new.self (g.B.BlockStore.blocks c.args.self.now.store) c.args.db
    c.requires.intact.arranged c.shrink_keys.ensures.changes c.shrink_keys.ensures.items
    (c.shrink_keys.ensures.keyed (g.B.BlockStore.blocks c.args.self.now.store) (c.requires.intact.arranged.keyed c.args.db)) c.shrink_keys.ensures.seed)

pub returns-in_err-_of_deadlines-clause-means : goal.returns-in_err-_of_deadlines-clause-means
returns-in_err-_of_deadlines-clause-means g c = items_means g.V.Stored.refs_of g.V.Stored.value_of g.met.V.Stored.reads_own c.args.self.now.bases c.shrink_deadlines.new.self
    (g.B.BlockStore.blocks c.args.self.now.store) c.args.db c.requires.intact.arranged
    (both_shrink g.V.Stored.refs_of g.V.Stored.value_of g.met.V.Stored.reads_own c.args.self.now.bases c.shrink_keys.new.self (g.B.BlockStore.blocks c.args.self.now.store) c.args.db
    c.requires.intact.arranged c.shrink_keys.ensures.changes c.shrink_keys.ensures.items
    (c.shrink_keys.ensures.keyed (g.B.BlockStore.blocks c.args.self.now.store) (c.requires.intact.arranged.keyed c.args.db)) c.shrink_keys.ensures.seed c.shrink_deadlines.new.self
    c.shrink_deadlines.ensures.changes c.shrink_deadlines.ensures.items
    (c.shrink_deadlines.ensures.keyed (g.B.BlockStore.blocks c.args.self.now.store)
    (keys_shrink g.V.Stored.refs_of g.V.Stored.value_of g.met.V.Stored.reads_own c.args.self.now.bases c.shrink_keys.new.self (g.B.BlockStore.blocks c.args.self.now.store) c.args.db
    c.requires.intact.arranged c.shrink_keys.ensures.changes c.shrink_keys.ensures.items
    (c.shrink_keys.ensures.keyed (g.B.BlockStore.blocks c.args.self.now.store) (c.requires.intact.arranged.keyed c.args.db)) c.shrink_keys.ensures.seed).times_keyed)
    c.shrink_deadlines.ensures.seed)

pub returns-in_err-_of_deadlines-clause-sound : goal.returns-in_err-_of_deadlines-clause-sound
returns-in_err-_of_deadlines-clause-sound g c = items_sound g.V.Stored.refs_of g.V.Stored.value_of g.met.V.Stored.reads_own c.args.self.now.bases c.shrink_deadlines.new.self
    (g.B.BlockStore.blocks c.args.self.now.store) c.args.db c.requires.intact.arranged
    (both_shrink g.V.Stored.refs_of g.V.Stored.value_of g.met.V.Stored.reads_own c.args.self.now.bases c.shrink_keys.new.self (g.B.BlockStore.blocks c.args.self.now.store) c.args.db
    c.requires.intact.arranged c.shrink_keys.ensures.changes c.shrink_keys.ensures.items
    (c.shrink_keys.ensures.keyed (g.B.BlockStore.blocks c.args.self.now.store) (c.requires.intact.arranged.keyed c.args.db)) c.shrink_keys.ensures.seed c.shrink_deadlines.new.self
    c.shrink_deadlines.ensures.changes c.shrink_deadlines.ensures.items
    (c.shrink_deadlines.ensures.keyed (g.B.BlockStore.blocks c.args.self.now.store)
    (keys_shrink g.V.Stored.refs_of g.V.Stored.value_of g.met.V.Stored.reads_own c.args.self.now.bases c.shrink_keys.new.self (g.B.BlockStore.blocks c.args.self.now.store) c.args.db
    c.requires.intact.arranged c.shrink_keys.ensures.changes c.shrink_keys.ensures.items
    (c.shrink_keys.ensures.keyed (g.B.BlockStore.blocks c.args.self.now.store) (c.requires.intact.arranged.keyed c.args.db)) c.shrink_keys.ensures.seed).times_keyed)
    c.shrink_deadlines.ensures.seed)

pub returns-clause-means : goal.returns-clause-means
returns-clause-means g c = items_means g.V.Stored.refs_of g.V.Stored.value_of g.met.V.Stored.reads_own c.args.self.now.bases c.shrink_deadlines.new.self
    (g.B.BlockStore.blocks c.args.self.now.store) c.args.db c.requires.intact.arranged
    (both_shrink g.V.Stored.refs_of g.V.Stored.value_of g.met.V.Stored.reads_own c.args.self.now.bases c.shrink_keys.new.self (g.B.BlockStore.blocks c.args.self.now.store) c.args.db
    c.requires.intact.arranged c.shrink_keys.ensures.changes c.shrink_keys.ensures.items
    (c.shrink_keys.ensures.keyed (g.B.BlockStore.blocks c.args.self.now.store) (c.requires.intact.arranged.keyed c.args.db)) c.shrink_keys.ensures.seed c.shrink_deadlines.new.self
    c.shrink_deadlines.ensures.changes c.shrink_deadlines.ensures.items
    (c.shrink_deadlines.ensures.keyed (g.B.BlockStore.blocks c.args.self.now.store)
    (keys_shrink g.V.Stored.refs_of g.V.Stored.value_of g.met.V.Stored.reads_own c.args.self.now.bases c.shrink_keys.new.self (g.B.BlockStore.blocks c.args.self.now.store) c.args.db
    c.requires.intact.arranged c.shrink_keys.ensures.changes c.shrink_keys.ensures.items
    (c.shrink_keys.ensures.keyed (g.B.BlockStore.blocks c.args.self.now.store) (c.requires.intact.arranged.keyed c.args.db)) c.shrink_keys.ensures.seed).times_keyed)
    c.shrink_deadlines.ensures.seed)

pub returns-clause-sound : goal.returns-clause-sound
returns-clause-sound g c = items_sound g.V.Stored.refs_of g.V.Stored.value_of g.met.V.Stored.reads_own c.args.self.now.bases c.shrink_deadlines.new.self
    (g.B.BlockStore.blocks c.args.self.now.store) c.args.db c.requires.intact.arranged
    (both_shrink g.V.Stored.refs_of g.V.Stored.value_of g.met.V.Stored.reads_own c.args.self.now.bases c.shrink_keys.new.self (g.B.BlockStore.blocks c.args.self.now.store) c.args.db
    c.requires.intact.arranged c.shrink_keys.ensures.changes c.shrink_keys.ensures.items
    (c.shrink_keys.ensures.keyed (g.B.BlockStore.blocks c.args.self.now.store) (c.requires.intact.arranged.keyed c.args.db)) c.shrink_keys.ensures.seed c.shrink_deadlines.new.self
    c.shrink_deadlines.ensures.changes c.shrink_deadlines.ensures.items
    (c.shrink_deadlines.ensures.keyed (g.B.BlockStore.blocks c.args.self.now.store)
    (keys_shrink g.V.Stored.refs_of g.V.Stored.value_of g.met.V.Stored.reads_own c.args.self.now.bases c.shrink_keys.new.self (g.B.BlockStore.blocks c.args.self.now.store) c.args.db
    c.requires.intact.arranged c.shrink_keys.ensures.changes c.shrink_keys.ensures.items
    (c.shrink_keys.ensures.keyed (g.B.BlockStore.blocks c.args.self.now.store) (c.requires.intact.arranged.keyed c.args.db)) c.shrink_keys.ensures.seed).times_keyed)
    c.shrink_deadlines.ensures.seed)

pub returns-in_err-_of_keys-clause-within : goal.returns-in_err-_of_keys-clause-within
returns-in_err-_of_keys-clause-within g c = within_items g.V.Stored.refs_of (no_key c.args.db) c.args.self.now.bases c.shrink_keys.new.self (g.B.BlockStore.blocks c.args.self.now.store)
    c.args.db refl c.requires.intact.arranged c.requires.db c.shrink_keys.ensures.changes c.shrink_keys.ensures.items
    (c.shrink_keys.ensures.grown (g.B.BlockStore.blocks c.args.self.now.store))

pub returns-in_err-_of_deadlines-clause-within : goal.returns-in_err-_of_deadlines-clause-within
returns-in_err-_of_deadlines-clause-within g c =
    within_then g.V.Stored.refs_of (no_key c.args.db) c.args.self.now.bases c.shrink_keys.new.self c.shrink_deadlines.new.self (g.B.BlockStore.blocks c.args.self.now.store)
    (g.B.BlockStore.blocks c.args.self.now.store) (g.B.BlockStore.blocks c.args.self.now.store)
    (within_items g.V.Stored.refs_of (no_key c.args.db) c.args.self.now.bases c.shrink_keys.new.self (g.B.BlockStore.blocks c.args.self.now.store) c.args.db refl
    c.requires.intact.arranged c.requires.db c.shrink_keys.ensures.changes c.shrink_keys.ensures.items (c.shrink_keys.ensures.grown (g.B.BlockStore.blocks c.args.self.now.store)))
    (within_times g.V.Stored.refs_of (no_key c.args.db) c.shrink_keys.new.self c.shrink_deadlines.new.self (g.B.BlockStore.blocks c.args.self.now.store) c.args.db refl
    (items_arranged g.V.Stored.refs_of g.V.Stored.value_of g.met.V.Stored.reads_own c.args.self.now.bases c.shrink_keys.new.self (g.B.BlockStore.blocks c.args.self.now.store) c.args.db
    c.requires.intact.arranged
    (keys_shrink g.V.Stored.refs_of g.V.Stored.value_of g.met.V.Stored.reads_own c.args.self.now.bases c.shrink_keys.new.self (g.B.BlockStore.blocks c.args.self.now.store) c.args.db
    c.requires.intact.arranged c.shrink_keys.ensures.changes c.shrink_keys.ensures.items
    (c.shrink_keys.ensures.keyed (g.B.BlockStore.blocks c.args.self.now.store) (c.requires.intact.arranged.keyed c.args.db)) c.shrink_keys.ensures.seed)) c.requires.db
    c.shrink_deadlines.ensures.changes (c.shrink_deadlines.ensures.grown (g.B.BlockStore.blocks c.args.self.now.store)) c.shrink_deadlines.ensures.cursor)

pub returns-clause-within : goal.returns-clause-within
returns-clause-within g c =
    within_then g.V.Stored.refs_of (no_key c.args.db) c.args.self.now.bases c.shrink_keys.new.self c.shrink_deadlines.new.self (g.B.BlockStore.blocks c.args.self.now.store)
    (g.B.BlockStore.blocks c.args.self.now.store) (g.B.BlockStore.blocks c.args.self.now.store)
    (within_items g.V.Stored.refs_of (no_key c.args.db) c.args.self.now.bases c.shrink_keys.new.self (g.B.BlockStore.blocks c.args.self.now.store) c.args.db refl
    c.requires.intact.arranged c.requires.db c.shrink_keys.ensures.changes c.shrink_keys.ensures.items (c.shrink_keys.ensures.grown (g.B.BlockStore.blocks c.args.self.now.store)))
    (within_times g.V.Stored.refs_of (no_key c.args.db) c.shrink_keys.new.self c.shrink_deadlines.new.self (g.B.BlockStore.blocks c.args.self.now.store) c.args.db refl
    (items_arranged g.V.Stored.refs_of g.V.Stored.value_of g.met.V.Stored.reads_own c.args.self.now.bases c.shrink_keys.new.self (g.B.BlockStore.blocks c.args.self.now.store) c.args.db
    c.requires.intact.arranged
    (keys_shrink g.V.Stored.refs_of g.V.Stored.value_of g.met.V.Stored.reads_own c.args.self.now.bases c.shrink_keys.new.self (g.B.BlockStore.blocks c.args.self.now.store) c.args.db
    c.requires.intact.arranged c.shrink_keys.ensures.changes c.shrink_keys.ensures.items
    (c.shrink_keys.ensures.keyed (g.B.BlockStore.blocks c.args.self.now.store) (c.requires.intact.arranged.keyed c.args.db)) c.shrink_keys.ensures.seed)) c.requires.db
    c.shrink_deadlines.ensures.changes (c.shrink_deadlines.ensures.grown (g.B.BlockStore.blocks c.args.self.now.store)) c.shrink_deadlines.ensures.cursor)

pub returns-in_err-_of_keys-clause-err : goal.returns-in_err-_of_keys-clause-err
returns-in_err-_of_keys-clause-err g c =
    let begins : table_at c.shrink_keys.new.self c.args.db ≡ table_at c.args.self.now.bases c.args.db → BeginsToShrink c.args.self.now.bases c.shrink_keys.new.self c.args.db =
    λ same. record { keys = inr same; deadlines = c.shrink_keys.ensures.changes.deadlines } in
    search rules

pub returns-in_err-_of_deadlines-clause-err : goal.returns-in_err-_of_deadlines-clause-err
returns-in_err-_of_deadlines-clause-err g c =
    let begins : deadlines_at c.shrink_deadlines.new.self c.args.db ≡ deadlines_at c.shrink_keys.new.self c.args.db → BeginsToShrink c.args.self.now.bases c.shrink_deadlines.new.self c.args.db =
    λ same. record {
      keys = inl (λ blocks. ap (key_tables blocks) c.shrink_deadlines.ensures.changes.keys ∙ c.in_ok-_of_keys.ensures.tables blocks);
      deadlines = same ∙ c.shrink_keys.ensures.changes.deadlines;
    } in
    search rules

pub returns-clause-shrunk : goal.returns-clause-shrunk
returns-clause-shrunk g c = record {
  keys = λ blocks. ap (key_tables blocks) c.shrink_deadlines.ensures.changes.keys ∙ c.in_ok-_of_keys.ensures.tables blocks;
  deadlines = λ blocks. c.in_ok-_of_deadlines.ensures.tables blocks ∙ ap (λ (d : Timed). shrunk (key_tables blocks d.table)) c.shrink_keys.ensures.changes.deadlines;
}
