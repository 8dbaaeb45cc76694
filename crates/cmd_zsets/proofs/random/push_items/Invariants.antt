use Rattle.std.proofs.Common.{◌≡◌, ◌++◌, take}
use Rattle.zset_object.specs.Items.{pair_at}
use Rattle.cmd_zsets.specs.Spans.{told_all}
use Rattle.cmd_zsets.specs.Picked.{pairs_of}
use Rattle.cmd_zsets.proofs.random.push_items.Given as goal

abbrev pub invariant-loop-item : goal.invariant-loop-item
invariant-loop-item g l = l.parts ≡ l.fn.parts ++ told_all l.with_scores (pairs_of (λ at. pair_at (g.B.BlockStore.blocks l.store) l.zset at) (take l.item-index l.items))
