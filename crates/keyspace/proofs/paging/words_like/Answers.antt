use Rattle.std.proofs.Common.{drop, subst, arith, ◌+◌}
use Rattle.keyspace.specs.Sifted.{PassesOf}
use Rattle.keyspace.proofs.Sifting.{SoFar, words_next, words_last, drop_next, drop_none}
use Rattle.keyspace.proofs.paging.words_like.Goals as goal

pub loop-item-preserved : goal.loop-item-preserved
loop-item-preserved g c =
    let m = g.B.BlockStore.blocks c.args.store.now in
    let P = PassesOf (g.P.Paged.name_at m c.args.target.now) c.args.pattern.now in
    let W = g.P.Paged.words_of m c.args.target.now in
    words_next P W c.args.items.now (drop (c.loop-item.item-index + 1) c.args.items.now) _ c.loop-item.words.items c.push_like.new.words.items
    (subst (λ l. SoFar P W c.args.items.now l c.loop-item.words.items) (drop_next c.args.items.now c.loop-item.item-index (omega (arith, c.loop-item-test.true))) c.loop-item.invariant)
    c.in_ok-push_like.ensures

pub returns : goal.returns
returns g c =
    let m = g.B.BlockStore.blocks c.args.store.now in
    let P = PassesOf (g.P.Paged.name_at m c.args.target.now) c.args.pattern.now in
    let W = g.P.Paged.words_of m c.args.target.now in
    words_last P W c.args.items.now (drop c.loop-item.item-index c.args.items.now) c.loop-item.words.items
    (drop_none c.args.items.now c.loop-item.item-index (omega (arith, c.loop-item-test.false))) c.loop-item.invariant
