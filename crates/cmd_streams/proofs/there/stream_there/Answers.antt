use Rattle.std.proofs.Common.{◌≡◌, rules, subst}
use Rattle.keyspace.specs.Commands.{visible}
use Rattle.cmd_streams.specs.Found.{FoundStream}
use Rattle.cmd_streams.proofs.AtKeys.{found_stream}
use Rattle.cmd_streams.proofs.there.stream_there.Goals as goal

pub returns : goal.returns
returns g c =
    let blocks = g.B.BlockStore.blocks in
    let keyspace = c.args.keyspace.now in
    let same : c.in-Stream.stream.value ≡ c.deref.result.now = search rules in
    subst (FoundStream (visible blocks keyspace c.args.at.now) (blocks keyspace.store) c.args.key.now) same
    (found_stream keyspace.bases _ c.args.at.now c.args.key.now c.value_at-value.result.now c.in-Stream.stream c.in-Stream.is c.requires.ready.sound
    (c.value_at-value.ensures c.args.key.now c.args.at.now.moment c.requires.there.there))
