use Rattle.std.proofs.Common.{◌∙◌, is_some, ap}
use Rattle.rax_packed.specs.Maps.{entries_of}
use Rattle.rax_packed.specs.Packed.{value_at}
use Rattle.stream_object.specs.Streams.{nodes}
use Rattle.stream_object.proofs.Exchanging.{stands_value}
use Rattle.stream_object.proofs.stream.Stream.nodes_of.Goals as goal

pub nodes_of-requires-clause-stands : goal.nodes_of-requires-clause-stands
nodes_of-requires-clause-stands g c =
    let m = g.B.BlockStore.blocks c.args.store.now in
    let tree = c.args.self.now.tree in
    ap (λ key. is_some (value_at (entries_of m tree) key)) c.key.ensures
    ∙ ap is_some (stands_value m tree (nodes m c.args.self.now) c.args.key c.requires.stands.0 c.requires.is_stream.parts c.requires.stands.1)
