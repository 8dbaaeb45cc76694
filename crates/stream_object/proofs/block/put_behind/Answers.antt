use Rattle.std.proofs.Common.{List, ℕ, length, take, ap, subst, arith}
use Rattle.std.proofs.lemmas.List.{length-drop}
use Rattle.blocks.specs.Blocks.{bytes_at}
use Rattle.blocks.proofs.Serve.{served_once, served_next}
use Rattle.stream_node.specs.Appended.{written_over}
use Rattle.stream_object.specs.Block.{IsPut}
use Rattle.stream_object.proofs.Holdings.{over_put}
use Rattle.stream_object.proofs.block.put_behind.Goals as goal

pub returns-clause-put : goal.returns-clause-put
returns-clause-put g c =
    let m = g.B.BlockStore.blocks c.args.store.now in
    let mid = g.B.BlockStore.blocks c.write.new.self in
    let after = g.B.BlockStore.blocks c.write-2.new.self in
    let head = c.args.behind.now.head in
    let q = c.requires in
    let tail = ap length c.tail.ensures in
    let long = length-drop 6 c.args.behind.now.entry.items in
    subst (λ (t : List ℕ). IsPut m after c.args.at (written_over (take c.args.len (bytes_at m c.args.at)) head t)) c.tail.ensures
    (over_put m mid after c.args.at c.args.len head c.tail.result.now q.some q.seven (omega (arith, q.room, q.header)) (omega (arith, q.room, q.some, q.header, tail, long))
    c.write.ensures.written c.write-2.ensures.written)

pub returns-clause-served : goal.returns-clause-served
returns-clause-served g c = served_next _ _ _ (served_once _ _ c.write.ensures.step) c.write-2.ensures.step
