use Rattle.std.proofs.Common.{◌≡◌, rules, subst}
use Rattle.keyspace.specs.Commands.{visible}
use Rattle.cmd_zsets.specs.Found.{FoundZset}
use Rattle.cmd_zsets.proofs.AtKeys.{found_zset}
use Rattle.cmd_zsets.proofs.there.zset_there.Goals as goal

pub returns : goal.returns
returns g c =
    let blocks = g.B.BlockStore.blocks in
    let keyspace = c.args.keyspace.now in
    let same : c.in-Zset.zset.value ≡ c.deref.result.now = search rules in
    subst (FoundZset (visible blocks keyspace c.args.at.now) (blocks keyspace.store) c.args.key.now) same
    (found_zset keyspace.bases _ c.args.at.now c.args.key.now c.value_at-value.result.now c.in-Zset.zset c.in-Zset.is c.requires.ready.sound
    (c.value_at-value.ensures c.args.key.now c.args.at.now.moment c.requires.there.there))
