use Rattle.std.proofs.Common.{sym, subst}
use Rattle.std.specs.Prelude.{ℕ, ◌≡◌, []}
use Rattle.keyspace.specs.Databases.{means}
use Rattle.keyspace.specs.Sound.{Sound}
use Rattle.cmd_keys.proofs.connection.debug_rehash.Goals as goal

pub returns-clause-means : goal.returns-clause-means
returns-clause-means g c =
    subst
    (λ s. (number : ℕ) → means number c.rehash-found.new.self.bases (g.B.BlockStore.blocks s) ≡ means number c.args.keyspace.now.bases
    (g.B.BlockStore.blocks c.args.keyspace.now.store)) (sym c.rehash-found.ensures.store) c.rehash-found.ensures.means

pub returns-clause-sound : goal.returns-clause-sound
returns-clause-sound g c =
    subst (λ s. Sound c.rehash-found.new.self.bases (g.B.BlockStore.blocks s)) (sym c.rehash-found.ensures.store) (c.rehash-found.ensures.sound [] c.requires.sound)
