use Rattle.std.proofs.Common.{sym, subst}
use Rattle.object_codec.specs.Limits.{AreInRange}
use Rattle.held.proofs.Calls.{new_means_world, new_sound, new_grown}
use Rattle.held.proofs.keyspace.Keyspace.new.Goals as goal

pub returns-clause-means : goal.returns-clause-means
returns-clause-means g c = new_means_world g.V.Stored.refs_of g.V.Stored.value_of g.met.V.Stored.reads_own c.in_ok-bases.bases c.args.seed c.in_ok-bases.ensures.bases
    (g.B.BlockStore.blocks c.args.store)

pub returns-clause-sound : goal.returns-clause-sound
returns-clause-sound g c = new_sound g.V.Stored.refs_of g.V.Stored.value_of g.met.V.Stored.reads_own c.in_ok-bases.bases c.args.seed c.in_ok-bases.ensures.bases
    (g.B.BlockStore.blocks c.args.store) c.requires.empty (subst AreInRange (sym c.in_ok-bases.ensures.limits) c.requires.limits) c.in_ok-bases.ensures.seed c.in_ok-bases.ensures.turn

pub returns-clause-grown : goal.returns-clause-grown
returns-clause-grown g c = new_grown g.V.Stored.refs_of g.V.Stored.value_of g.met.V.Stored.reads_own c.in_ok-bases.bases c.args.seed c.in_ok-bases.ensures.bases
    (g.B.BlockStore.blocks c.args.store) c.in_ok-bases.ensures.seed
