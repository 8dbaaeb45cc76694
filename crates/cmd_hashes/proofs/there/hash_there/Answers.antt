use Rattle.std.proofs.Common.{◌≡◌, rules, subst}
use Rattle.keyspace.specs.Commands.{visible}
use Rattle.cmd_hashes.specs.Found.{FoundHash}
use Rattle.cmd_hashes.proofs.AtKeys.{found_hash}
use Rattle.cmd_hashes.proofs.there.hash_there.Goals as goal

pub returns : goal.returns
returns g c =
    let blocks = g.B.BlockStore.blocks in
    let keyspace = c.args.keyspace.now in
    let same : c.in-Hash.hash.value ≡ c.deref.result.now = search rules in
    subst (FoundHash (visible blocks keyspace c.args.at.now) (blocks keyspace.store) c.args.key.now) same
    (found_hash keyspace.bases _ c.args.at.now c.args.key.now c.value_at-value.result.now c.in-Hash.hash c.in-Hash.is c.requires.ready.sound
    (c.value_at-value.ensures c.args.key.now c.args.at.now.moment c.requires.there.there))
