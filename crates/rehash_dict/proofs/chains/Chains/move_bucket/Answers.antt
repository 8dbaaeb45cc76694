use Rattle.rehash_dict.proofs.Buckets.{part_way_more}
use Rattle.rehash_dict.proofs.chains.Chains.move_bucket.Goals as goal

pub loop-preserved : goal.loop-preserved
loop-preserved g c = part_way_more c.args.self.now c.loop.self c.move_first.new.self c.args.number c.loop.invariant c.loop-test.ensures.moves
