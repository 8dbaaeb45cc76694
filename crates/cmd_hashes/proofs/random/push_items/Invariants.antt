use Rattle.std.proofs.Common.{◌≡◌, ◌++◌, take, flat_map}
use Rattle.hash_object.specs.Items.{pair_at}
use Rattle.cmd_hashes.specs.Listed.{told_of}
use Rattle.cmd_hashes.specs.Picked.{pairs_of}
use Rattle.cmd_hashes.proofs.random.push_items.Given as goal

abbrev pub invariant-loop-item : goal.invariant-loop-item
invariant-loop-item g l = l.parts ≡ l.fn.parts ++ flat_map (told_of l.told) (pairs_of (λ at. pair_at (g.B.BlockStore.blocks l.store) l.hash at) (take l.item-index l.items))
