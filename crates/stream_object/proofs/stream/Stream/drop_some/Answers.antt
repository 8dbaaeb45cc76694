use Rattle.std.proofs.Common.{List, ℕ, length, ap, refl, arith}
use Rattle.listpack.specs.Pack.{texts}
use Rattle.stream_node.specs.Entries.{entries_of}
use Rattle.stream_object.specs.Parts.{part, live_of}
use Rattle.stream_object.specs.Found.{Stands}
use Rattle.stream_object.specs.Streams.{nodes}
use Rattle.stream_object.proofs.Grows.{near_part}
use Rattle.stream_object.proofs.Clears.{none_below}
use Rattle.stream_object.proofs.Losing.{stands_bytes}
use Rattle.stream_object.proofs.Trims.{some_node, node_dropped, first_dropped}
use Rattle.stream_object.proofs.stream.Stream.drop_some.Goals as goal

pub unreachable-requires : goal.unreachable-requires
unreachable-requires g c =
    let m = g.B.BlockStore.blocks c.args.store.now in
    some_node m c.args.self.now c.requires.is_stream (omega (arith, c.requires.some, c.requires.within)) (none_below _ refl refl (nodes m c.args.self.now) c.in_default.ensures.none)

pub live_count-count-requires : goal.live_count-count-requires
live_count-count-requires g c =
    let m = g.B.BlockStore.blocks c.args.store.now in
    let n = c.in-Some.ensures.some in
    let spot = c.in-Some.spot in
    (spot.key, (near_part m c.args.self.now.tree (nodes m c.args.self.now) n.before n.after (part spot.key spot.at spot.bytes.now) c.requires.is_stream.parts n.place).is_node)

pub first_live-first-requires : goal.first_live-first-requires
first_live-first-requires g c =
    let m = g.B.BlockStore.blocks c.args.store.now in
    let n = c.in-Some.ensures.some in
    let spot = c.in-Some.spot in
    (near_part m c.args.self.now.tree (nodes m c.args.self.now) n.before n.after (part spot.key spot.at spot.bytes.now) c.requires.is_stream.parts n.place).is_node

pub drop_node-requires-clause-stands : goal.drop_node-requires-clause-stands
drop_node-requires-clause-stands g c =
    let n = c.in-Some.ensures.some in
    record { before = n.before; after = n.after; bytes = c.in-Some.spot.bytes.now; place = n.place }

pub overflow_sub-self : goal.overflow_sub-self
overflow_sub-self g c =
    let m = g.B.BlockStore.blocks c.args.store.now in
    omega (arith, c.requires.within)

pub returns-then-count-most-clause-dropped : goal.returns-then-count-most-clause-dropped
returns-then-count-most-clause-dropped g c =
    let m = g.B.BlockStore.blocks c.args.store.now in
    let after = g.B.BlockStore.blocks c.drop_node.new.store in
    let n = c.in-Some.ensures.some in
    let spot = c.in-Some.spot in
    let s : Stands (nodes m c.args.self.now) spot.key spot.at = record { before = n.before; after = n.after; bytes = spot.bytes.now; place = n.place } in
    let is_node = (near_part m c.args.self.now.tree (nodes m c.args.self.now) n.before n.after (part spot.key spot.at spot.bytes.now) c.requires.is_stream.parts n.place).is_node in
    node_dropped m c.args.self.now _ (part spot.key spot.at spot.bytes.now) refl refl c.requires.is_stream n after _ c.live_count-count.result (c.live_count-count.ensures spot.key is_node)
    (c.drop_node.ensures.dropped s) c.beside-self.ensures (omega (arith, c.requires.within)) refl refl refl refl

pub returns-then-count-most-clause-some : goal.returns-then-count-most-clause-some
returns-then-count-most-clause-some g c =
    let m = g.B.BlockStore.blocks c.args.store.now in
    let n = c.in-Some.ensures.some in
    let spot = c.in-Some.spot in
    let is_node = (near_part m c.args.self.now.tree (nodes m c.args.self.now) n.before n.after (part spot.key spot.at spot.bytes.now) c.requires.is_stream.parts n.place).is_node in
    omega (arith, c.live_count-count.ensures spot.key is_node, is_node.some)

pub mark_out-requires-clause-stands : goal.mark_out-requires-clause-stands
mark_out-requires-clause-stands g c =
    let n = c.in-Some.ensures.some in
    let f = c.first_live-first.ensures in
    (record { before = n.before; after = n.after; bytes = c.in-Some.spot.bytes.now; place = n.place }, (f.0, f.1))

pub mark_out-requires-clause-others : goal.mark_out-requires-clause-others
mark_out-requires-clause-others g c =
    let m = g.B.BlockStore.blocks c.args.store.now in
    let n = c.in-Some.ensures.some in
    let spot = c.in-Some.spot in
    let p = near_part m c.args.self.now.tree (nodes m c.args.self.now) n.before n.after (part spot.key spot.at spot.bytes.now) c.requires.is_stream.parts n.place in
    λ s. (let same = stands_bytes m c.args.self.now.tree spot.key spot.at s c.requires.is_stream.parts spot.bytes.now p.block in
    omega (arith, c.live_count-count.ensures spot.key p.is_node, ap (λ (b : List ℕ). length (live_of (entries_of spot.key (texts b)))) same, c.if-count-most.false, c.requires.some))

pub returns-clause-dropped : goal.returns-clause-dropped
returns-clause-dropped g c =
    let m = g.B.BlockStore.blocks c.args.store.now in
    let after = g.B.BlockStore.blocks c.mark_out.new.store in
    let n = c.in-Some.ensures.some in
    let spot = c.in-Some.spot in
    let s : Stands (nodes m c.args.self.now) spot.key spot.at = record { before = n.before; after = n.after; bytes = spot.bytes.now; place = n.place } in
    let f = c.first_live-first.ensures in
    first_dropped m c.args.self.now _ (part spot.key spot.at spot.bytes.now) refl refl c.requires.is_stream n after _ c.first_live-first.result f.0 f.1 f.2
    (c.in_ok-mark_out.ensures.loses s f.0 f.1) c.beside-self-2.ensures (omega (arith, c.requires.within, c.requires.some)) refl refl refl refl
