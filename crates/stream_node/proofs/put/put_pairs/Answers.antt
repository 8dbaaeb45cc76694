use Rattle.std.proofs.Common.{List, sym, subst, arith}
use Rattle.std.specs.List.{flat_map}
use Rattle.std.proofs.lemmas.List.{take_all}
use Rattle.stream_node.specs.Entry.{Pair}
use Rattle.stream_node.specs.Pairs.{pair_at}
use Rattle.stream_node.specs.Written.{Extends, HasRoom, pair_texts}
use Rattle.stream_node.proofs.Written.{none_put, pair_room, pair_put, same_pair}
use Rattle.stream_node.proofs.put.put_pairs.Goals as goal

pub loop-index-init : goal.loop-index-init
loop-index-init c = none_put c.args.pack.now.items c.requires.packed

pub put_pair-requires-clause-room : goal.put_pair-requires-clause-room
put_pair-requires-clause-room c =
    let pairs = c.args.pairs.now in
    let mid = c.loop-index.pack.items in
    let is = same_pair (pair_at pairs c.loop-index.index) c.field.result.now c.value.result.now c.field.ensures c.value.ensures in
    subst (λ (p : Pair). HasRoom mid (pair_texts c.args.same p)) (sym is)
    (pair_room (pair_texts c.args.same) pairs c.args.pack.now.items mid c.loop-index.index c.requires.packed c.requires.room c.loop-index.invariant (omega arith))

pub loop-index-preserved : goal.loop-index-preserved
loop-index-preserved c =
    let pairs = c.args.pairs.now in
    let mid = c.loop-index.pack.items in
    let new = c.put_pair.new.pack.items in
    let is = same_pair (pair_at pairs c.loop-index.index) c.field.result.now c.value.result.now c.field.ensures c.value.ensures in
    pair_put (pair_texts c.args.same) pairs c.args.pack.now.items mid new c.loop-index.index (omega arith) c.loop-index.invariant
    (subst (λ (p : Pair). Extends mid new (pair_texts c.args.same p)) is c.in_ok-put_pair.ensures)

pub returns : goal.returns
returns c =
    subst (λ (p : List Pair). Extends c.args.pack.now.items c.loop-index.pack.items (flat_map (pair_texts c.args.same) p)) (take_all c.loop-index.index c.args.pairs.now (omega arith))
    c.loop-index.invariant
