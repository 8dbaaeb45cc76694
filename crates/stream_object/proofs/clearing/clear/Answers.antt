use Rattle.std.proofs.Common.{◌++◌, refl, sym, subst}
use Rattle.blocks.specs.Blocks.{no_step}
use Rattle.blocks.proofs.Serve.{served_then}
use Rattle.stream_object.specs.Parts.{part, parts_of}
use Rattle.stream_object.specs.Found.{Exchanges, Stands}
use Rattle.stream_object.proofs.Parts.{parts_are}
use Rattle.stream_object.proofs.Clears.{exchanges_none, exchanges_then, none_below, fewer_parts}
use Rattle.stream_object.proofs.clearing.clear.Goals as goal

pub loop-spot-init : goal.loop-spot-init
loop-spot-init g c =
    let m = g.B.BlockStore.blocks c.args.store.now in
    record { exchanges = exchanges_none m c.args.tree.now (parts_of m c.args.tree.now) c.requires; served = no_step }

pub near-requires : goal.near-requires
near-requires g c = record { parts = c.loop-spot.invariant.exchanges.parts }

pub drop_node-requires-clause-parts : goal.drop_node-requires-clause-parts
drop_node-requires-clause-parts g c = c.loop-spot.invariant.exchanges.parts

pub drop_node-requires-clause-stands : goal.drop_node-requires-clause-stands
drop_node-requires-clause-stands g c =
    let n = c.in-Some.ensures.some in
    record { before = n.before; after = n.after; bytes = c.in-Some.spot.bytes.now; place = n.place }

pub loop-spot-preserved : goal.loop-spot-preserved
loop-spot-preserved g c =
    let m = g.B.BlockStore.blocks c.args.store.now in
    let mid = g.B.BlockStore.blocks c.loop-spot.store in
    let after = g.B.BlockStore.blocks c.drop_node.new.store in
    let n = c.in-Some.ensures.some in
    let s : Stands (parts_of mid c.loop-spot.tree) c.in-Some.spot.key c.in-Some.spot.at = record { before = n.before; after = n.after; bytes = c.in-Some.spot.bytes.now; place = n.place } in
    let x = c.drop_node.ensures.dropped s in
    let all = exchanges_then m mid after c.args.tree.now c.loop-spot.tree c.drop_node.new.tree (parts_of mid c.loop-spot.tree) (n.before ++ n.after) c.loop-spot.invariant.exchanges x in
    record {
      exchanges = subst (Exchanges m after c.args.tree.now c.drop_node.new.tree) (sym (parts_are after c.drop_node.new.tree (n.before ++ n.after) x.parts)) all;
      served = served_then _ _ _ c.loop-spot.invariant.served c.drop_node.ensures.served;
    }

pub loop-spot-smaller : goal.loop-spot-smaller
loop-spot-smaller g c =
    let mid = g.B.BlockStore.blocks c.loop-spot.store in
    let after = g.B.BlockStore.blocks c.drop_node.new.store in
    let n = c.in-Some.ensures.some in
    let spot = c.in-Some.spot in
    let s : Stands (parts_of mid c.loop-spot.tree) spot.key spot.at = record { before = n.before; after = n.after; bytes = spot.bytes.now; place = n.place } in
    fewer_parts after c.drop_node.new.tree (parts_of mid c.loop-spot.tree) n.before n.after (part spot.key spot.at spot.bytes.now) (c.drop_node.ensures.dropped s).parts n.place

pub returns-clause-cleared : goal.returns-clause-cleared
returns-clause-cleared g c =
    let m = g.B.BlockStore.blocks c.args.store.now in
    let mid = g.B.BlockStore.blocks c.loop-spot.store in
    subst (Exchanges m mid c.args.tree.now c.loop-spot.tree) (none_below _ refl refl (parts_of mid c.loop-spot.tree) c.in_default.ensures.none) c.loop-spot.invariant.exchanges

pub returns-clause-served : goal.returns-clause-served
returns-clause-served g c = c.loop-spot.invariant.served
