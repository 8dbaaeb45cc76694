use Rattle.keyspace.proofs.Uses.{has_sound}
use Rattle.std.proofs.Common.{rules}
use Rattle.cmd_keys.proofs.KeyLemmas.{actual_told}
use Rattle.cmd_keys.proofs.keys.encoding.object_encoding.Goals as goal

pub returns-in_ok-new-in-Some-clause-actual : goal.returns-in_ok-new-in-Some-clause-actual
returns-in_ok-new-in-Some-clause-actual g c =
    actual_told c.args.keyspace.now.bases (g.B.BlockStore.blocks c.args.keyspace.now.store) c.args.at.now c.args.key.now c.in-Some.value.now _ _ c.bulk.result c.in-Some.ensures.found
    c.encoding-name.ensures.is (search rules) c.bulk.ensures

pub encoding-name-requires-clause-sound : goal.encoding-name-requires-clause-sound
encoding-name-requires-clause-sound g c = (
  c.args.keyspace.now.bases.limits,
  c.args.keyspace.now.bases.seed,
  has_sound c.args.keyspace.now.bases (g.B.BlockStore.blocks c.args.keyspace.now.store) c.args.at.now.db c.args.key.now c.in-Some.value.now c.requires.ready.sound.arranged c.in-Some.ensures.found.has,
)
