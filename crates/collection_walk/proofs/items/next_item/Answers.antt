use Rattle.std.proofs.Common.{sym, ◌∙◌, arith}
use Rattle.collection_walk.proofs.Ranks.{rank_all}
use Rattle.collection_walk.proofs.items.next_item.Goals as goal

pub returns : goal.returns
returns g c =
    sym c.loop-at.invariant ∙ rank_all c.args.table.now.items c.loop-at.at (λ i some. let below = c.requires i some in omega (arith, below, c.loop-at-test.false))
