use Rattle.std.proofs.Common.{◌∙◌, arith}
use Rattle.std.specs.List.{find}
use Rattle.stream_node.specs.Ids.{IsId}
use Rattle.stream_object.specs.Streams.{entries, has_id, pair_of}
use Rattle.stream_object.proofs.Agains.{popped, range_one}
use Rattle.stream_object.proofs.Rises.{stream_fits}
use Rattle.stream_object.proofs.stream.Stream.entry.Goals as goal

pub returns : goal.returns
returns g c =
    let m = g.B.BlockStore.blocks c.args.store.now in
    let id : IsId c.args.id = record { ms = omega arith; seq = omega arith } in
    let es = entries m c.args.self.now in
    popped c.in_ok-found.found.items c.pop.new.self.items c.pop.result (find (has_id (pair_of c.args.id)) es) c.pop.ensures.items (λ some. c.pop.ensures.variant.1 (omega (arith, some)))
    (c.in_ok-found.ensures ∙ range_one c.args.id id es (stream_fits m c.args.self.now c.requires))
