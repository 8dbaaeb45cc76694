use Rattle.std.proofs.Common.{refl, sym, arith}
use Rattle.blocks.proofs.Serve.{served_same}
use Rattle.stream_node.specs.Ids.{IsId}
use Rattle.stream_object.specs.Parts.{part}
use Rattle.stream_object.specs.Streams.{nodes}
use Rattle.stream_object.proofs.Grows.{near_part}
use Rattle.stream_object.proofs.Losing.{lost, some_there, unchanged, nowhere, missing_here, found_here}
use Rattle.stream_object.proofs.stream.Stream.delete.Goals as goal

pub returns-in_default-clause-found : goal.returns-in_default-clause-found
returns-in_default-clause-found g c =
    let m = g.B.BlockStore.blocks c.args.store.now in
    let id : IsId c.args.id = record { ms = omega arith; seq = omega arith } in
    sym (nowhere m c.args.id id (nodes m c.args.self.now) c.requires.parts.each c.in_default.ensures.none)

pub returns-in_default-clause-deleted : goal.returns-in_default-clause-deleted
returns-in_default-clause-deleted g c =
    let m = g.B.BlockStore.blocks c.args.store.now in
    let id : IsId c.args.id = record { ms = omega arith; seq = omega arith } in
    unchanged m c.args.self.now c.args.id c.requires (nowhere m c.args.id id (nodes m c.args.self.now) c.requires.parts.each c.in_default.ensures.none)

pub returns-in_default-clause-served : goal.returns-in_default-clause-served
returns-in_default-clause-served g c = served_same _ _ refl

pub find-requires : goal.find-requires
find-requires g c =
    let m = g.B.BlockStore.blocks c.args.store.now in
    let n = c.in-Some.ensures.some in
    let spot = c.in-Some.spot in
    (near_part m c.args.self.now.tree (nodes m c.args.self.now) n.before n.after (part spot.key spot.at spot.bytes.now) c.requires.parts n.place).is_node

pub returns-in_default-find-clause-found : goal.returns-in_default-find-clause-found
returns-in_default-find-clause-found g c =
    let m = g.B.BlockStore.blocks c.args.store.now in
    let id : IsId c.args.id = record { ms = omega arith; seq = omega arith } in
    let spot = c.in-Some.spot in
    sym
    (missing_here c.args.id id m (nodes m c.args.self.now) (part spot.key spot.at spot.bytes.now) c.requires.parts.each c.requires.parts.rising c.in-Some.ensures.some
    c.in_default-find.ensures.none)

pub returns-in_default-find-clause-deleted : goal.returns-in_default-find-clause-deleted
returns-in_default-find-clause-deleted g c =
    let m = g.B.BlockStore.blocks c.args.store.now in
    let id : IsId c.args.id = record { ms = omega arith; seq = omega arith } in
    let spot = c.in-Some.spot in
    unchanged m c.args.self.now c.args.id c.requires
    (missing_here c.args.id id m (nodes m c.args.self.now) (part spot.key spot.at spot.bytes.now) c.requires.parts.each c.requires.parts.rising c.in-Some.ensures.some
    c.in_default-find.ensures.none)

pub returns-in_default-find-clause-served : goal.returns-in_default-find-clause-served
returns-in_default-find-clause-served g c = served_same _ _ refl

pub take_out-requires-clause-stands : goal.take_out-requires-clause-stands
take_out-requires-clause-stands g c =
    let n = c.in-Some.ensures.some in
    let found = c.in-Some-find.ensures.some in
    (record { before = n.before; after = n.after; bytes = c.in-Some.spot.bytes.now; place = n.place }, (found.0, found.1))

pub returns-clause-found : goal.returns-clause-found
returns-clause-found g c =
    let m = g.B.BlockStore.blocks c.args.store.now in
    let id : IsId c.args.id = record { ms = omega arith; seq = omega arith } in
    let spot = c.in-Some.spot in
    let found = c.in-Some-find.ensures.some in
    sym
    (found_here c.args.id id m (nodes m c.args.self.now) (part spot.key spot.at spot.bytes.now) c.requires.parts.each c.requires.parts.rising c.in-Some.ensures.some
    c.in-Some-find.index found.0 found.1 found.2)

pub returns-clause-deleted : goal.returns-clause-deleted
returns-clause-deleted g c =
    let m = g.B.BlockStore.blocks c.args.store.now in
    let after = g.B.BlockStore.blocks c.take_out.new.store in
    let id : IsId c.args.id = record { ms = omega arith; seq = omega arith } in
    let spot = c.in-Some.spot in
    let n = c.in-Some.ensures.some in
    let found = c.in-Some-find.ensures.some in
    let t = c.in_ok-take_out.ensures.loses (record { before = n.before; after = n.after; bytes = spot.bytes.now; place = n.place }) found.0 found.1 in
    lost m after c.args.self.now _ c.args.id id c.requires (part spot.key spot.at spot.bytes.now) n c.in-Some-find.index found.0 found.1 found.2 t
    (omega (arith, c.requires.counted, some_there m c.args.self.now c.args.id id c.requires (part spot.key spot.at spot.bytes.now) n c.in-Some-find.index found.0 found.1)) refl
    c.greater_of-self.ensures refl refl c.beside-self.ensures
