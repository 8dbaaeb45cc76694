use Rattle.std.proofs.Common.{arith}
use Rattle.blocks.proofs.Serve.{served_next, served_then}
use Rattle.stream_node.specs.Ids.{IsId}
use Rattle.stream_object.specs.Parts.{parts_of}
use Rattle.stream_object.proofs.Exchanging.{comes, comes_tree}
use Rattle.stream_object.proofs.nodes.put_last.Goals as goal

pub insert-requires : goal.insert-requires
insert-requires g c =
    let m = g.B.BlockStore.blocks c.args.store.now in
    let mid = g.B.BlockStore.blocks c.put_block.new.store in
    let id : IsId c.args.key = record { ms = omega arith; seq = omega arith } in
    comes_tree m mid mid c.args.tree.now c.args.tree.now (parts_of m c.args.tree.now) c.args.key c.in_ok-at.at c.args.bytes.now c.requires.parts id c.in_ok-at.ensures.placed c.in_ok-at.ensures.changes

pub returns-in-Ok-clause-placed : goal.returns-in-Ok-clause-placed
returns-in-Ok-clause-placed g c =
    let m = g.B.BlockStore.blocks c.args.store.now in
    let mid = g.B.BlockStore.blocks c.put_block.new.store in
    let after = g.B.BlockStore.blocks c.insert.new.store in
    let id : IsId c.args.key = record { ms = omega arith; seq = omega arith } in
    λ is rising.
    comes m mid after c.args.tree.now c.insert.new.self (parts_of m c.args.tree.now) c.args.key c.in_ok-at.at c.args.bytes.now c.requires.parts id c.in_ok-at.ensures.placed c.in_ok-at.ensures.changes
    c.in-Ok.ensures.sound (rw c.key.ensures at c.in-Ok.ensures.inserted) c.in-Ok.ensures.changes is rising

pub returns-in-Ok-clause-served : goal.returns-in-Ok-clause-served
returns-in-Ok-clause-served g c = served_then _ _ _ c.put_block.ensures.served c.insert.ensures.served

pub returns-in-Err-clause-served : goal.returns-in-Err-clause-served
returns-in-Err-clause-served g c = served_next _ _ _ (served_then _ _ _ c.put_block.ensures.served c.insert.ensures.served) c.give_back.ensures.step
