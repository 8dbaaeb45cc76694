use Rattle.std.proofs.Common.{is_some, refl, ap}
use Rattle.std.proofs.lemmas.Option.{IfSome_then}
use Rattle.stream_object.specs.Found.{part_at}
use Rattle.stream_object.proofs.Tails.{tail_part, tail_read, near_end}
use Rattle.stream_object.proofs.tail.last_node.Goals as goal

pub bytes-requires : goal.bytes-requires
bytes-requires g c =
    let m = g.B.BlockStore.blocks c.args.store.now in
    let kept = rw c.in-Some.is at c.requires.kept in
    let p = tail_part m c.args.tree.now c.in-Some.tail c.requires.parts kept in
    ap is_some p.block

pub returns-in-Some : goal.returns-in-Some
returns-in-Some g c =
    let m = g.B.BlockStore.blocks c.args.store.now in
    tail_read m c.args.tree.now c.in-Some.tail c.requires.parts (rw c.in-Some.is at c.requires.kept) c.bytes.result.now c.bytes.ensures

pub returns-in-None : goal.returns-in-None
returns-in-None g c =
    let m = g.B.BlockStore.blocks c.args.store.now in
    IfSome_then c.near.result c.near.ensures.some (λ spot n. near_end m c.args.tree.now _ (part_at spot) refl refl c.requires.parts n)
