use Rattle.std.proofs.Common.{refl, arith}
use Rattle.blocks.proofs.Serve.{served_same}
use Rattle.stream_node.specs.Ids.{IsId}
use Rattle.stream_object.proofs.Grows.{grown_changed}
use Rattle.stream_object.proofs.stream.Stream.append.Goals as goal

pub returns-clause-appended : goal.returns-clause-appended
returns-clause-appended g c =
    let m = g.B.BlockStore.blocks c.args.store.now in
    let id : IsId c.args.id = record { ms = omega arith; seq = omega arith } in
    grown_changed m _ c.args.self.now _ c.args.id c.args.pairs.now c.in_ok-tail.tail c.requires.is_stream id c.in_ok-tail.ensures.grows c.in-Some.ensures.1 refl refl refl refl refl

pub returns-in_default-clause-served : goal.returns-in_default-clause-served
returns-in_default-clause-served g c = served_same _ _ refl
